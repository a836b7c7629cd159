use Rattle.std.specs.Prelude.{ℕ, ◌==◌, ◌&&◌, Bool, true, false, not, if◌then◌else◌, nat_le, bit_and, Result, Ok, Err}
use Rattle.dt_record.specs.declared.reasons.Reason.TheVariants as reason
use Rattle.dt_csr.specs.declared.access.CsrRead.{CsrRead}
use Rattle.dt_csr.specs.declared.cause.TheConstants.{ILLEGAL_INSTRUCTION}
use Rattle.dt_csr.specs.declared.access.CsrRead.TheVariants.{Value, Counter, Pending, Illegal}
use Rattle.dt_csr.specs.declared.state.Csrs.{Csrs}
use Rattle.dt_csr.specs.Access.{read_of, floor_of}
use Rattle.dt_step.specs.declared.plans.Planned.{Planned}
use Rattle.dt_step.specs.declared.plans.Planned.TheVariants.{Done, Csr as Access}
use Rattle.dt_step.specs.declared.state.Arch.{Arch}
use Rattle.dt_rules.specs.declared.misfits.Misfit.{Misfit}
use Rattle.dt_rules.specs.declared.misfits.TheConstants.{NO_NUMBER}
use Rattle.dt_rules.specs.Checks.{misfit, check}

-- The value of a commit is what it writes to rd, and 0 where it writes no register or rd is x0 (this
-- project's own). Ok says whether it was taken over from the record.

abbrev pub value_check : (due found : ℕ) → Result Bool Misfit
value_check due found = check (due == found) (misfit reason.Value due found) (Ok false)

-- A counter is not below its floor, and pending interrupts are among those that there are: these are
-- taken over. Any other register shows what is kept. An illegal read never retires: it raises its cause.
abbrev pub shown_check : Csrs → CsrRead → ℕ → Result Bool Misfit
shown_check c (Value value) found = value_check value found
shown_check c (Counter counter) found =
    check (nat_le (floor_of c counter) found) (misfit reason.Counter (floor_of c counter) found) (Ok true)
shown_check c (Pending mask) found = check (bit_and found mask == found) (misfit reason.Adopt (bit_and found mask) found) (Ok true)
shown_check c Illegal found = Err (misfit reason.Raises ILLEGAL_INSTRUCTION NO_NUMBER)

abbrev pub commit_value_check : Arch → Planned → ℕ → Result Bool Misfit
commit_value_check a (Done rd value next) found = value_check (if rd == 0 then 0 else value) found
commit_value_check a (Access number op operand reads writes rd) found =
    if reads && not (rd == 0) then shown_check a.csrs (read_of a.csrs a.mode a.hart number) found else value_check 0 found
commit_value_check a plan found = value_check 0 found
