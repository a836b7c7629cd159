use Rattle.std.specs.Prelude.{ℕ, ◌+◌, ◌&&◌, Bool, true, false, Option, None, Some, List, [], ◌∷◌, ◌++◌, option_to_list, if◌then◌else◌}
use Rattle.dt_alu.specs.Extend.{low_bytes_of}
use Rattle.dt_decode.specs.declared.instructions.Instr.{Instr}
use Rattle.dt_decode.specs.declared.instructions.Instr.TheVariants.{Load as LoadOf, Store as StoreOf, Fence, Lr, Sc, Amo}
use Rattle.dt_record.specs.declared.keys.Key.{Key}
use Rattle.dt_record.specs.declared.records.Record.{Record}
use Rattle.dt_record.specs.declared.records.Body.{Body}
use Rattle.dt_record.specs.declared.records.Body.TheVariants.{Commit, Load, Store, Atomic, Drain}
use Rattle.dt_record.specs.Actions.{Action, Stored, Drained, Fenced, Loaded, Atomic as Accessed}
use Rattle.dt_record.specs.Keys.{key_of}
use Rattle.dt_record.specs.Lawful.{is_in_ram}
use Rattle.dt_step.specs.declared.plans.Planned.{Planned}
use Rattle.dt_step.specs.declared.plans.Planned.TheVariants.{Fences}
use Rattle.dt_step.specs.Plans.{fence_of}
use Rattle.dt_reference.specs.Meaning.{meaning_of}

-- What the records of a hart do that bears on the order of its memory accesses (this project's own).

-- how many bytes a load or a store moves, and 0 for anything else
abbrev pub width_of : Option Instr → ℕ
width_of (Some (LoadOf width signed rd rs1 imm)) = width
width_of (Some (StoreOf width rs1 rs2 imm)) = width
width_of instr = 0

-- what a fence orders
abbrev pub fenced : Planned → Option Action
fenced (Fences ww wr rr) = Some (Fenced ww wr rr)
fenced plan = None

abbrev pub commit_action : Option Instr → Option Action
commit_action (Some (Fence fm pred succ)) = fenced (fence_of fm pred succ)
commit_action instr = None

-- LR and AMO read memory
abbrev pub reads_memory : Option Instr → Bool
reads_memory (Some (Lr width aq rl rd rs1)) = true
reads_memory (Some (Amo op width aq rl rd rs1 rs2)) = true
reads_memory instr = false

-- an acquire that isn't a failed SC, where the record says whether it wrote
abbrev pub acquires : Option Instr → Bool → Bool
acquires (Some (Lr width aq rl rd rs1)) wrote = aq
acquires (Some (Sc width aq rl rd rs1 rs2)) wrote = aq && wrote
acquires (Some (Amo op width aq rl rd rs1 rs2)) wrote = aq
acquires instr wrote = false

-- what the body of a record with this key does: accesses to devices order nothing
abbrev pub body_action : Key → Body → Option Action
body_action key (Commit retire) = commit_action (meaning_of retire.bits)
body_action key (Load retire at paddr) =
    if is_in_ram paddr
    then Some (Loaded (record {
      key = key;
      at = at;
      addr = paddr;
      width = width_of (meaning_of retire.bits);
      raw = low_bytes_of (width_of (meaning_of retire.bits)) retire.value;
    }))
    else None
body_action key (Store pc bits paddr value) =
    if is_in_ram paddr
    then Some (Stored (record { seq = key.seq; addr = paddr; width = width_of (meaning_of bits); value = value }))
    else None
body_action key (Atomic retire paddr width wrote new) =
    Some (Accessed key paddr width (reads_memory (meaning_of retire.bits)) (acquires (meaning_of retire.bits) wrote))
body_action key (Drain line mask count bytes) = Some (Drained key line count)
body_action key body = None

-- what the record with this number among its hart's records does
abbrev pub action_of : ℕ → Record → Option Action
action_of seq r = body_action (key_of seq r) r.body

-- the actions of some records of a hart, after so many of its records
abbrev pub actions_from : ℕ → List Record → List Action
actions_from seq [] = []
actions_from seq (r ∷ rs) = option_to_list (action_of seq r) ++ actions_from (seq + 1) rs

-- the actions of a hart's first records
abbrev pub actions_of : List Record → List Action
actions_of records = actions_from 0 records
