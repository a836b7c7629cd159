use Rattle.std.specs.Prelude.{ℕ, zero, suc, ◌+◌, ◌*◌, ◌==◌, ◌&&◌, ◌||◌, Bool, true, not, if◌then◌else◌, List, Result, Ok, ⊤}
use Rattle.dt_alu.specs.Amo.{amo_value}
use Rattle.dt_alu.specs.Extend.{extend_value}
use Rattle.dt_record.specs.declared.reasons.Reason.{Reason}
use Rattle.dt_record.specs.declared.reasons.Reason.TheVariants.{ScSuccess, AtomicValue, AtomicWrite}
use Rattle.dt_record.specs.declared.writes.Write.{Write}
use Rattle.dt_record.specs.Memory.{memory_at}
use Rattle.dt_rules.specs.declared.misfits.Misfit.{Misfit}
use Rattle.dt_rules.specs.Checks.{misfit, check, and_then}
use Rattle.dt_step.specs.declared.plans.AtomicOp.{AtomicOp}
use Rattle.dt_step.specs.declared.plans.AtomicOp.TheVariants.{Lr as LoadReserved, Sc as StoreConditional, Amo as ReadModifyWrite}
use Rattle.dt_atomics.specs.declared.accesses.AtomicAccess.{AtomicAccess}
use Rattle.dt_atomics.specs.Asking.{is_conditional, writes_now}

-- What an atomic gives and writes (this project's own, where no source is named).

-- a number is the one that is due
abbrev pub due_check : Reason → (due found : ℕ) → Result ⊤ Misfit
due_check reason due found = check (due == found) (misfit reason due found) (Ok tt)

-- an SC that wrote found its reservation live
abbrev pub success_check : (live : Bool) → AtomicAccess → Result ⊤ Misfit
success_check live x = check (not (is_conditional x.op && x.wrote) || live) (misfit ScSuccess 1 0) (Ok tt)

-- the number of so many bytes from an address on, after the first k writes, the low byte first
abbrev pub number_at : List ℕ → List Write → (k width addr : ℕ) → ℕ
number_at image writes k zero addr = 0
number_at image writes k (suc width) addr = memory_at image writes k addr + 256 * number_at image writes k width (addr + 1)

-- the value of an SC: 0 where it succeeded, and anything else where it failed (Volume I, section 8.2)
abbrev pub result_check : (wrote : Bool) → (value : ℕ) → Result ⊤ Misfit
result_check wrote value = if wrote then due_check AtomicValue 0 value else check (not (value == 0)) (misfit AtomicValue 1 value) (Ok tt)

-- the value of an LR or AMO: the old value, sign-extended (Volume I, sections 8.2 and 8.4)
abbrev pub value_check : (old : ℕ) → AtomicAccess → Result ⊤ Misfit
value_check old x =
    if is_conditional x.op then result_check x.wrote x.value else due_check AtomicValue (extend_value x.width true old) x.value

-- what an atomic writes, and 0 where it writes nothing
abbrev pub new_value : AtomicOp → (wrote : Bool) → (width old operand : ℕ) → ℕ
new_value LoadReserved wrote width old operand = 0
new_value StoreConditional wrote width old operand = if wrote then operand else 0
new_value (ReadModifyWrite op) wrote width old operand = amo_value op width old operand

abbrev pub one_if : Bool → ℕ
one_if b = if b then 1 else 0

-- the width, whether anything was written, and what
abbrev pub write_check : (old : ℕ) → AtomicAccess → Result ⊤ Misfit
write_check old x =
    and_then (due_check AtomicWrite x.width x.said_width) (λ _.
    and_then (due_check AtomicWrite (one_if (writes_now x.op x.wrote)) (one_if x.wrote)) (λ _.
    due_check AtomicWrite (new_value x.op x.wrote x.width old x.operand) x.new))
