use Rattle.std.specs.Prelude.{ℕ, ◌+◌, Bool, true, false, if◌then◌else◌, Option, None, Some, option_map, option_to_list, List, [], ◌∷◌, ◌++◌}
use Rattle.dt_decode.specs.declared.instructions.Instr.{Instr}
use Rattle.dt_decode.specs.declared.instructions.Instr.TheVariants.{Fence as FenceOf, FenceI, SfenceVma}
use Rattle.dt_record.specs.declared.records.Record.{Record}
use Rattle.dt_record.specs.declared.records.Body.{Body}
use Rattle.dt_record.specs.declared.records.Body.TheVariants.{Commit}
use Rattle.dt_record.specs.Keys.{key_of}
use Rattle.dt_reference.specs.Meaning.{meaning_of}
use Rattle.dt_reference.specs.Run.{after_record, start_of}
use Rattle.dt_step.specs.declared.plans.Planned.{Planned}
use Rattle.dt_step.specs.declared.state.Arch.{Arch}
use Rattle.dt_step.specs.Plans.{plan_of}
use Rattle.dt_windows.specs.Fences.{Fence, fence_at}
use Rattle.dt_hart.specs.Settings.{Setting}

-- The fences of a hart that bear on its translations and its fetches (this project's own).

-- what FENCE.I (Volume I, chapter 3) or SFENCE.VMA (Volume II, section 4.2.1) plans in a state
abbrev pub fence_plan : Arch → (bits : ℕ) → Option Instr → Option Planned
fence_plan a bits (Some FenceI) = Some (plan_of a FenceI bits)
fence_plan a bits (Some (SfenceVma rs1 rs2)) = Some (plan_of a (SfenceVma rs1 rs2) bits)
fence_plan a bits instr = None

-- what such a fence planned, where a commit in this state retired one
abbrev pub fence_in : Arch → Body → Option Planned
fence_in a (Commit retire) = fence_plan a retire.bits (meaning_of retire.bits)
fence_in a body = None

-- the same with its key, of the record with this number among its hart's records
abbrev pub fence_by : Arch → ℕ → Record → Option Fence
fence_by a seq r = option_map (λ plan. fence_at plan (key_of seq r)) (fence_in a r.body)

-- the fences among some records of a hart, from a state on and after so many of its records
abbrev pub fences_from : Arch → ℕ → List Record → List Fence
fences_from a seq [] = []
fences_from a seq (r ∷ rs) = option_to_list (fence_by a seq r) ++ fences_from (after_record a r) (seq + 1) rs

-- the fences of a hart's records before the next one, the oldest first
abbrev pub fences_of : Setting → List Fence
fences_of s = fences_from (start_of s.hart s.wide) 0 s.before

-- a fence of any kind: FENCE (Volume I, section 2.7) and those two
abbrev pub is_ordering : Instr → Bool
is_ordering (FenceOf fm pred succ) = true
is_ordering FenceI = true
is_ordering (SfenceVma rs1 rs2) = true
is_ordering instr = false

-- what a fence of any kind plans in a state
abbrev pub ordering_plan : Arch → (bits : ℕ) → Option Instr → Option Planned
ordering_plan a bits (Some instr) = if is_ordering instr then Some (plan_of a instr bits) else None
ordering_plan a bits None = None

-- what such a fence planned, where a commit in this state retired one
abbrev pub ordering_in : Arch → Body → Option Planned
ordering_in a (Commit retire) = ordering_plan a retire.bits (meaning_of retire.bits)
ordering_in a body = None
