use Rattle.std.specs.Prelude.{ℕ, ◌==◌, true, false, if◌then◌else◌, List, Option, Some, None, Result, Ok, Err}
use Rattle.dt_access.specs.Translating.{atomic_access, walk_args}
use Rattle.dt_csr.specs.declared.cause.TheConstants.{ILLEGAL_INSTRUCTION}
use Rattle.dt_decode.specs.declared.instructions.Instr.{Instr}
use Rattle.dt_record.specs.declared.reasons.Reason.TheVariants.{Cause}
use Rattle.dt_record.specs.declared.writes.Write.{Write}
use Rattle.dt_record.specs.Lawful.{is_instruction}
use Rattle.dt_versions.specs.declared.moments.Span.{Span}
use Rattle.dt_walk.specs.declared.arguments.Access.TheVariants.{Load, Store}
use Rattle.dt_step.specs.declared.plans.Planned.{Planned}
use Rattle.dt_step.specs.declared.plans.Planned.TheVariants.{NeedsLoad, NeedsStore, NeedsAtomic, Raises}
use Rattle.dt_step.specs.declared.state.Arch.{Arch}
use Rattle.dt_step.specs.Plans.{plan_of}
use Rattle.dt_reference.specs.Meaning.{meaning_of}
use Rattle.dt_rules.specs.declared.misfits.Misfit.{Misfit}
use Rattle.dt_rules.specs.declared.misfits.TheConstants.{NO_NUMBER}
use Rattle.dt_rules.specs.Checks.{misfit, check}
use Rattle.dt_traps.specs.declared.faults.Raised.{Raised}
use Rattle.dt_traps.specs.Faults.{raised, fault_check}

-- Traps that an instruction raises once it is fetched (this project's own, where no source is named).

-- what an instruction with these bits asks for; bits with no meaning are an illegal instruction
abbrev pub planned_as : Arch → (bits : ℕ) → Option Instr → Planned
planned_as a bits (Some i) = plan_of a i bits
planned_as a bits None = Raises ILLEGAL_INSTRUCTION bits

abbrev pub planned : Arch → (bits : ℕ) → Planned
planned a bits = planned_as a bits (meaning_of bits)

-- a cause in the place of the one that is due
abbrev pub refused : (due cause : ℕ) → Misfit
refused due cause = misfit Cause due cause

-- a cause of an instruction that raises one by itself, with this tval
abbrev pub own_check : (due tval cause : ℕ) → Result Raised Misfit
own_check due tval cause = check (cause == due) (refused due cause) (Ok (raised false tval))

-- the cause of an instruction: where it raises one by itself, that one alone, and else one that its
-- access of memory raises
abbrev pub plan_check : List ℕ → List Write → (window : Span) → Arch → Planned → (cause : ℕ) → Result Raised Misfit
plan_check image writes window a (Raises due tval) cause = own_check due tval cause
plan_check image writes window a (NeedsLoad va width signed rd) cause =
    fault_check image writes window (walk_args a Load va) false cause
plan_check image writes window a (NeedsStore va width value) cause =
    fault_check image writes window (walk_args a Store va) false cause
plan_check image writes window a (NeedsAtomic va width op aq rl rd operand) cause =
    fault_check image writes window (walk_args a (atomic_access op) va) true cause
plan_check image writes window a plan cause = Err (refused NO_NUMBER cause)

-- the virtual address that a plan accesses
abbrev pub address_in : Planned → Option ℕ
address_in (NeedsLoad va width signed rd) = Some va
address_in (NeedsStore va width value) = Some va
address_in (NeedsAtomic va width op aq rl rd operand) = Some va
address_in plan = None

-- the virtual address that the instruction with these bits accesses, where it raises nothing by itself
abbrev pub access_address : Arch → (bits : ℕ) → Option ℕ
access_address a bits = if is_instruction bits then address_in (planned a bits) else None
