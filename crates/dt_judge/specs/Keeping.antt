use Rattle.std.specs.Prelude.{ℕ, ◌≡◌, None, Some, Option, List, IsTrue}
use Rattle.std.specs.Option.{unwrap_or}
use Rattle.dt_alu.specs.Words.{sum_of}
use Rattle.dt_record.specs.declared.accesses.LoadAsk.{LoadAsk}
use Rattle.dt_record.specs.declared.keys.Key.{Key}
use Rattle.dt_record.specs.declared.origins.Letters.{Letters}
use Rattle.dt_record.specs.declared.origins.Sources.{Sources}
use Rattle.dt_record.specs.declared.records.Body.{Body}
use Rattle.dt_record.specs.declared.writes.Write.{Write}
use Rattle.dt_record.specs.Actions.{Action, Loaded, Atomic, order_floor}
use Rattle.dt_record.specs.Lawful.{is_in_ram}
use Rattle.dt_record.specs.LoadSources.{AreLeastSources}
use Rattle.dt_atomics.specs.Asking.{reads}
use Rattle.dt_checks.specs.declared.fetching.FetchSpans.{FetchSpans}
use Rattle.dt_hart.specs.HartView.{HartView}
use Rattle.dt_hart.specs.Taking.{IsDrained, ReadsAtKey}
use Rattle.dt_loads.specs.Reading.{IsReading, ask_of}
use Rattle.dt_local.specs.LocalMemory.{local_memory}
use Rattle.dt_reference.specs.HartActions.{body_action}
use Rattle.dt_sources.specs.Knowing.{AreJudged, Knows}
use Rattle.dt_step.specs.declared.plans.Planned.{Planned}
use Rattle.dt_step.specs.declared.plans.Planned.TheVariants.{NeedsLoad, NeedsStore, NeedsAtomic}
use Rattle.dt_step.specs.Alignment.{IsAligned}
use Rattle.dt_stores.specs.Standing.{StoresStand}
use Rattle.dt_traps.specs.declared.traps.TrapSpans.{TrapSpans}
use Rattle.dt_traps.specs.Instructions.{access_address}
use Rattle.dt_versions.specs.declared.moments.Span.{Span}
use Rattle.dt_versions.specs.History.{History, are_in_order}
use Rattle.dt_windows.specs.Fences.{first_since}
use Rattle.dt_windows.specs.Kept.{page_key}
use Rattle.dt_judge.specs.Grounds.{Grounds}

-- How the grounds of a record are seen from what is kept of its hart (this project's own).

abbrev pub span_of : (first last : ℕ) → Span
span_of first last = record { first = first; last = last }

-- the moments whose translation of an address may be used by a record that may see none after this last one
abbrev pub window_kept : HartView → List Write → (last : ℕ) → (va : ℕ) → Span
window_kept h writes last va = span_of (first_since writes (page_key h.windows va)) last

-- the moments for the halves of the instruction at the pc
abbrev pub fetch_kept : HartView → List Write → (last : ℕ) → FetchSpans
fetch_kept h writes last = record {
  first = window_kept h writes last h.arch.pc;
  second = window_kept h writes last (sum_of 64 h.arch.pc 2);
  since = span_of (first_since writes h.windows.instructions) last;
}

-- the moments for a trap: of the fetch, and of the page that its instruction accesses, if it accesses one
abbrev pub trap_kept : HartView → List Write → (last : ℕ) → (bits : ℕ) → TrapSpans
trap_kept h writes last bits = record {
  fetch = fetch_kept h writes last;
  access = window_kept h writes last (unwrap_or (access_address h.arch bits) 0);
}

-- the grounds of such a record, where its hart did these actions
abbrev pub grounds_kept : HartView → History → (last : ℕ) → List Action → (ℕ → ℕ) → Grounds
grounds_kept h m last actions moments = record {
  image = m.image;
  writes = m.writes;
  arch = h.arch;
  actions = actions;
  moments = moments;
  reserved = h.reserved;
  fetch = fetch_kept h m.writes last;
  window = window_kept h m.writes last;
}

-- What is kept of a hart is what these actions left before a record with this key: the loads among them read at these
-- moments, which are those of the least fitting assignment, over writes that stand in the order of their keys.
pub record Remembers (h : HartView) (m : History) (key : Key) (actions : List Action) (moments : ℕ → ℕ) : Type 0 where
  pub stores : StoresStand h.stores actions
  pub floor : h.floor ≡ order_floor actions
  pub knows : Knows (local_memory h.keys None) m.writes actions moments key
  pub judged : AreJudged m.writes actions key
  pub in_order : IsTrue (are_in_order m.writes)
  pub chosen : AreLeastSources m.image m.writes actions moments

-- whatever actions and moments the hart remembers before a record with this key, that holds of them
abbrev pub OnPast : HartView → History → Key → (List Action → (ℕ → ℕ) → Type 0) → Type 0
OnPast h m key P = (actions : List Action) (moments : ℕ → ℕ) → Remembers h m key actions moments → P actions moments

-- the same of the grounds of such a record that may see no moment after this last one
abbrev pub OnGrounds : HartView → History → (last : ℕ) → Key → (Grounds → Type 0) → Type 0
OnGrounds h m last key P = OnPast h m key (λ actions moments. P (grounds_kept h m last actions moments))

-- the physical address of a load or a store is aligned to its width
abbrev pub IsPlacedBy : Planned → (paddr : ℕ) → Type 0
IsPlacedBy (NeedsLoad va width signed rd) paddr = IsAligned paddr width
IsPlacedBy (NeedsStore va width value) paddr = IsAligned paddr width
IsPlacedBy plan paddr = Unit {0}

-- a load has a reading with these sources
abbrev pub HasReading : List ℕ → List Write → List Action → (ℕ → ℕ) → LoadAsk → Sources → Type 0
HasReading image writes actions moments ask sources =
    (letters : Letters) × IsReading image writes actions moments ask (record { letters = letters; sources = sources })

-- a load with this plan did, where its address is one of RAM
abbrev pub IsReadBy : List ℕ → List Write → List Action → (ℕ → ℕ) → Planned → Key → (value at paddr : ℕ) → Sources → Type 0
IsReadBy image writes actions moments (NeedsLoad va width signed rd) key value at paddr sources =
    IsTrue (is_in_ram paddr) → HasReading image writes actions moments (ask_of key at paddr width value) sources
IsReadBy image writes actions moments plan key value at paddr sources = Unit {0}

-- an LR or AMO with this plan had its bytes from the writes with smaller keys
abbrev pub IsAccessedBy : List Write → Planned → Key → (paddr width : ℕ) → Sources → Type 0
IsAccessedBy writes (NeedsAtomic va planned op aq rl rd operand) key paddr width sources =
    IsTrue (reads op) → ReadsAtKey writes key paddr width sources
IsAccessedBy writes plan key paddr width sources = Unit {0}

-- an action that is a load from RAM did, or one that is an LR or AMO had its bytes from these sources
abbrev pub IsReadIn : List ℕ → List Write → List Action → (ℕ → ℕ) → Option Action → Sources → Type 0
IsReadIn image writes actions moments (Some (Loaded ask)) sources = HasReading image writes actions moments ask sources
IsReadIn image writes actions moments (Some (Atomic key addr width reads acquires)) sources =
    IsTrue reads → ReadsAtKey writes key addr width sources
IsReadIn image writes actions moments action sources = Unit {0}

-- what was found of the body of an allowed record: where a load, an LR or an AMO read, and which stores a drain took
pub record WasFound (image : List ℕ) (writes : List Write) (actions : List Action) (moments : ℕ → ℕ) (key : Key) (body : Body)
    (sources : Sources) : Type 0 where
  pub is_read : IsReadIn image writes actions moments (body_action key body) sources
  pub is_drained : IsDrained actions body
