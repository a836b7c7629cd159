use Rattle.std.specs.Prelude.{ℕ, ◌≡◌, Bool, None, IsSomeAnd, List, [], ◌∷◌, IsTrue, if◌then◌else◌}
use Rattle.std.specs.Option.{option_map_or}
use Rattle.dt_csr.specs.declared.access.CsrRead.{CsrRead}
use Rattle.dt_csr.specs.declared.access.CsrRead.TheVariants.{Counter, Pending, Illegal, Value as Known}
use Rattle.dt_csr.specs.Access.{read_of}
use Rattle.dt_csr.specs.Registers.{reset_csrs}
use Rattle.dt_record.specs.declared.records.Record.{Record}
use Rattle.dt_record.specs.declared.records.Body.{Body}
use Rattle.dt_record.specs.declared.records.Body.TheVariants.{Commit, Trap, Regs, Csrs, Load, Store, Atomic, Drain, Refill, Beat}
use Rattle.dt_record.specs.Lawful.{is_instruction}
use Rattle.dt_step.specs.declared.plans.Answer.{Answer}
use Rattle.dt_step.specs.declared.plans.Answer.TheVariants.{Nothing, Value}
use Rattle.dt_step.specs.declared.plans.Planned.{Planned}
use Rattle.dt_step.specs.declared.plans.Planned.TheVariants.{Csr as Access}
use Rattle.dt_step.specs.declared.state.Arch.{Arch}
use Rattle.dt_step.specs.Causes.{due_cause}
use Rattle.dt_step.specs.Plans.{asks, plan_of, value_in}
use Rattle.dt_step.specs.State.{reset_arch, trapped}
use Rattle.dt_step.specs.Steps.{step_of}
use Rattle.dt_reference.specs.Meaning.{meaning_of}

-- The reference run of a hart (this project's own): the state after each of its records, where what
-- the reference alone does not determine is taken from the record.

-- what a register of control and status shows where a record says what it showed: its value, where
-- the reference knows it, and else what the record says
abbrev pub shown_as : CsrRead → ℕ → ℕ
shown_as (Known value) found = value
shown_as (Counter counter) found = found
shown_as (Pending mask) found = found
shown_as Illegal found = found

-- what a plan that asks for a value is given, where the record has this value: for a load or an
-- atomic what the record says
abbrev pub given_to : Arch → Planned → ℕ → ℕ
given_to a (Access number op operand reads writes rd) found = shown_as (read_of a.csrs a.mode a.hart number) found
given_to a plan found = found

-- the answer to a plan
abbrev pub answer_to : Arch → Planned → ℕ → Answer
answer_to a plan found = if asks plan then Value (given_to a plan found) else Nothing

-- the state after an instruction with these bits, whose record has this value
abbrev pub after_instruction : Arch → ℕ → ℕ → Arch
after_instruction a bits found =
    option_map_or (λ i. step_of a i bits (value_in (answer_to a (plan_of a i bits) found))) (meaning_of bits) a

-- the state after what a record says: drains, refills and what only shows the state leave it
abbrev pub after_body : Arch → Body → Arch
after_body a (Commit retire) = after_instruction a retire.bits retire.value
after_body a (Trap pc bits cause tval) = trapped a cause tval
after_body a (Regs pc x) = a
after_body a (Csrs mode v) = a
after_body a (Load retire at paddr) = after_instruction a retire.bits retire.value
after_body a (Store pc bits paddr value) = after_instruction a bits value
after_body a (Atomic retire paddr width wrote new) = after_instruction a retire.bits retire.value
after_body a (Drain line mask count bytes) = a
after_body a (Refill line bytes) = a
after_body a Beat = a

abbrev pub after_record : Arch → Record → Arch
after_record a r = after_body a r.body

-- a hart after a reset, in a file that does or does not let harts use Sv48
abbrev pub start_of : ℕ → Bool → Arch
start_of hart wide = record (reset_arch hart) { csrs = record reset_csrs { wide = wide } }

-- the state after some records from a state on
abbrev pub state_from : Arch → List Record → Arch
state_from a [] = a
state_from a (r ∷ rs) = state_from (after_record a r) rs

-- the state of a hart after its first records
abbrev pub state_after : ℕ → Bool → List Record → Arch
state_after hart wide records = state_from (start_of hart wide) records

-- the instruction with these bits can retire: it has a meaning, and raises nothing by itself
pub record CanRetire (a : Arch) (bits : ℕ) : Type 0 where
  pub instruction : IsTrue (is_instruction bits)
  pub legal : IsSomeAnd (meaning_of bits) (λ i. due_cause a i ≡ None)

-- where a record retires an instruction, that can retire
abbrev pub CanFollow : Arch → Body → Type 0
CanFollow a (Commit retire) = CanRetire a retire.bits
CanFollow a (Load retire at paddr) = CanRetire a retire.bits
CanFollow a (Store pc bits paddr value) = CanRetire a bits
CanFollow a (Atomic retire paddr width wrote new) = CanRetire a retire.bits
CanFollow a body = Unit {0}
