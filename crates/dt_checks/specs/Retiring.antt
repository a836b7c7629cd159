use Rattle.std.specs.Prelude.{ℕ, ◌≡◌, ◌==◌, Option, Some, None, IsSomeAnd, Result, Ok, Err}
use Rattle.dt_csr.specs.declared.cause.TheConstants.{ILLEGAL_INSTRUCTION}
use Rattle.dt_decode.specs.declared.instructions.Instr.{Instr}
use Rattle.dt_record.specs.declared.reasons.Reason.TheVariants.{Kind, Raises as RaisesCause}
use Rattle.dt_reference.specs.Meaning.{meaning_of}
use Rattle.dt_reference.specs.Run.{CanRetire}
use Rattle.dt_rules.specs.declared.misfits.Misfit.{Misfit}
use Rattle.dt_rules.specs.declared.misfits.TheConstants.{NO_NUMBER}
use Rattle.dt_rules.specs.Checks.{check, misfit}
use Rattle.dt_step.specs.declared.plans.Planned.{Planned}
use Rattle.dt_step.specs.declared.plans.Planned.TheVariants.{NeedsLoad, NeedsStore, NeedsAtomic, Raises}
use Rattle.dt_step.specs.declared.state.Arch.{Arch}
use Rattle.dt_step.specs.Alignment.{AccessesAligned}
use Rattle.dt_step.specs.Plans.{plan_of}

-- Whether an instruction can retire in this state, in a record of its kind (this project's own).

-- the tag of the kind of record that a plan needs: Load, Store, Atomic, and for all others Commit
abbrev pub due_tag : Planned → ℕ
due_tag (NeedsLoad va width signed rd) = 5
due_tag (NeedsStore va width value) = 6
due_tag (NeedsAtomic va width op aq rl rd operand) = 7
due_tag plan = 1

-- an instruction that raises a cause retires in no record
abbrev pub raised : ℕ → Misfit
raised cause = misfit RaisesCause cause NO_NUMBER

-- a plan, in a record with this tag
abbrev pub plan_check : Planned → (tag : ℕ) → Result Planned Misfit
plan_check (Raises cause tval) tag = Err (raised cause)
plan_check plan tag = check (due_tag plan == tag) (misfit Kind (due_tag plan) tag) (Ok plan)

-- what bits mean, if anything: bits with no meaning are an illegal instruction
abbrev pub meaning_check : Arch → (bits tag : ℕ) → Option Instr → Result Planned Misfit
meaning_check a bits tag (Some i) = plan_check (plan_of a i bits) tag
meaning_check a bits tag None = Err (raised ILLEGAL_INSTRUCTION)

-- the instruction with these bits, in a record with this tag
abbrev pub retire_check : Arch → (bits tag : ℕ) → Result Planned Misfit
retire_check a bits tag = meaning_check a bits tag (meaning_of bits)

-- what holds of an instruction that retires in a record with this tag, by this plan
pub record IsRetired (a : Arch) (bits tag : ℕ) (plan : Planned) : Type 0 where
  pub can_retire : CanRetire a bits
  pub is_planned : IsSomeAnd (meaning_of bits) (λ i. plan ≡ plan_of a i bits)
  pub is_aligned : AccessesAligned plan
  pub is_due : due_tag plan ≡ tag
