use Rattle.std.specs.Prelude.{ℕ, ◌≡◌, ◌+◌, ◌<◌, ◌%◌, ◌==◌, ◌&&◌, ◌||◌, Bool, true, false, not, Option, None, Some, IfSome, option_map, List, length, slice_get, IsTrue}
use Rattle.dt_record.specs.declared.accesses.LoadAsk.{LoadAsk}
use Rattle.dt_record.specs.declared.keys.Key.{Key}
use Rattle.dt_record.specs.declared.origins.Sources.{Sources}
use Rattle.dt_record.specs.declared.records.Record.{Record}
use Rattle.dt_record.specs.declared.records.Body.{Body}
use Rattle.dt_record.specs.declared.records.Body.TheVariants.{Commit, Load, Store, Drain}
use Rattle.dt_record.specs.declared.records.Body.TheVariants as body
use Rattle.dt_record.specs.declared.writes.Write.{Write}
use Rattle.dt_record.specs.Actions.{Action, Stored, Fenced, Loaded, Atomic}
use Rattle.dt_record.specs.Keys.{key_of}
use Rattle.dt_record.specs.Lawful.{is_in_ram, is_atomic_place}
use Rattle.dt_record.specs.LoadSources.{origin_of_key, AreLeastSources}
use Rattle.dt_record.specs.Memory.{source_at, moment_of}
use Rattle.dt_reference.specs.HartActions.{width_of}
use Rattle.dt_reference.specs.Meaning.{meaning_of}
use Rattle.dt_sources.specs.Choice.{then_action, with_moment}
use Rattle.dt_sources.specs.Finding.{AreSourcesAt, is_load_place}
use Rattle.dt_step.specs.declared.plans.Planned.{Planned}
use Rattle.dt_step.specs.declared.state.Arch.{Arch}
use Rattle.dt_step.specs.Plans.{plan_of}
use Rattle.dt_stores.specs.declared.answers.DrainAnswer.TheVariants.{Took}
use Rattle.dt_stores.specs.Draining.{drain_answer}
use Rattle.dt_stores.specs.Places.{is_store_place, is_store_width}
use Rattle.dt_hart.specs.declared.found.Findings.{Findings}
use Rattle.dt_hart.specs.Settings.{Setting, did, does}

-- What is known of a record that is allowed (this project's own).

-- a store to RAM, a load from it or an atomic has a width that there is, and an address that is aligned to it
abbrev pub is_placed : Option Action → Bool
is_placed (Some (Stored s)) = is_store_place s
is_placed (Some (Loaded ask)) = is_load_place ask
is_placed (Some (Atomic key addr width reads acquires)) = is_atomic_place addr width
is_placed action = true

-- a FENCE
abbrev pub is_fenced : Option Action → Bool
is_fenced (Some (Fenced ww wr rr)) = true
is_fenced action = false

-- whether a load or a store of so many bytes of RAM may be at an address
abbrev pub is_access_place : (addr width : ℕ) → Bool
is_access_place addr width = is_store_width width && ((addr % width == 0) && is_in_ram addr)

-- whether that holds of a load or a store with these bits, where the address is one of RAM
abbrev pub is_placed_at : (bits addr : ℕ) → Bool
is_placed_at bits addr =
    let width = width_of (meaning_of bits) in
    not (is_in_ram addr) || (is_store_width width && (addr % width == 0))

-- the plan of the instruction with these bits in a state
abbrev pub instruction_plan : Arch → (bits : ℕ) → Option Planned
instruction_plan a bits = option_map (λ i. plan_of a i bits) (meaning_of bits)

-- the plan of the instruction that a record retires in a state, where it retires one
abbrev pub retired_plan : Arch → Body → Option Planned
retired_plan a (Commit retire) = instruction_plan a retire.bits
retired_plan a (Load retire at paddr) = instruction_plan a retire.bits
retired_plan a (Store pc bits paddr value) = instruction_plan a bits
retired_plan a (body.Atomic retire paddr width wrote new) = instruction_plan a retire.bits
retired_plan a body = None

-- What was found of a record in a state, after so many of its hart's records: its key, and where a plan is told, that of
-- the instruction that it retires. Of the sources WasJudged says more.
pub record AreFoundOf (a : Arch) (seq : ℕ) (r : Record) (found : Findings) : Type 0 where
  pub key : found.key ≡ key_of seq r
  pub plan : IfSome found.plan (λ plan. retired_plan a r.body ≡ Some plan)

-- a load from RAM read at this moment, in the least fitting assignment of the loads up to it, and its bytes come from
-- these sources
pub record ReadsLeast (s : Setting) (ask : LoadAsk) (moment : ℕ) (sources : Sources) : Type 0 where
  pub chosen : AreLeastSources s.image s.writes (then_action (did s) (Loaded ask)) (with_moment s.moments (length (did s)) moment)
  pub origins : AreSourcesAt s.writes (did s) ask moment sources

-- an atomic with this key had its bytes from the writes with smaller keys
abbrev pub ReadsAtKey : List Write → Key → (addr width : ℕ) → Sources → Type 0
ReadsAtKey writes key addr width sources =
    (i : ℕ) → i < width → slice_get sources.from i ≡ Some (origin_of_key (source_at writes (moment_of writes key) (addr + i)))

-- an action that is a load from RAM, or an LR or AMO, did
abbrev pub WasRead : Setting → Option Action → (moment : ℕ) → Sources → Type 0
WasRead s (Some (Loaded ask)) moment sources = ReadsLeast s ask moment sources
WasRead s (Some (Atomic key addr width reads acquires)) moment sources = IsTrue reads → ReadsAtKey s.writes key addr width sources
WasRead s action moment sources = Unit {0}

-- a drain after some actions of its hart takes its stores, and its mask and bytes are theirs
abbrev pub IsDrained : List Action → Body → Type 0
IsDrained actions (Drain line mask count bytes) = drain_answer actions line count ≡ Took mask bytes
IsDrained actions body = Unit {0}

-- What was found when the record was judged: the moment at which a load from RAM read, and where the bytes of a load, an LR
-- or an AMO come from.
pub record WasJudged (s : Setting) (r : Record) (moment : ℕ) (sources : Sources) : Type 0 where
  pub is_read : WasRead s (does s r) moment sources
  pub is_drained : IsDrained (did s) r.body
