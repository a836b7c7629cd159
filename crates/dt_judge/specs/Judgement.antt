use Rattle.std.specs.Prelude.{◌≡◌, Result}
use Rattle.dt_record.specs.declared.keys.Key.{Key}
use Rattle.dt_record.specs.declared.records.Record.{Record}
use Rattle.dt_record.specs.declared.records.Body.{Body}
use Rattle.dt_record.specs.declared.records.Body.TheVariants.{Commit, Trap, Regs, Csrs, Load, Store, Atomic, Drain, Refill, Beat}
use Rattle.dt_rules.specs.declared.misfits.Misfit.{Misfit}
use Rattle.dt_rules.specs.declared.misfits.TheConstants.{NO_LETTERS}
use Rattle.dt_rules.specs.Checks.{and_then}
use Rattle.dt_commits.specs.States.{registers_check, csrs_check}
use Rattle.dt_drains.specs.Draining.{drain_check}
use Rattle.dt_rules.specs.declared.misfits.Passed.{Passed}
use Rattle.dt_hart.specs.Settings.{Setting, key_in}
use Rattle.dt_judge.specs.Grounds.{Grounds, grounds_of}
use Rattle.dt_judge.specs.Kinds.{passed, fine, commit_finding, trap_finding, store_finding, refill_finding, IsLoadFinding, IsAtomicFinding}

-- The judgement of a record of any kind (this project's own).

-- what the judgement finds of the body of a record with this key: that it is allowed, with its letters and sources, or
-- the misfit of its first check that fails
abbrev pub FindsBody : Grounds → Key → Body → Result Passed Misfit → Type 0
FindsBody g key (Commit retire) f = f ≡ commit_finding g key retire
FindsBody g key (Trap pc bits cause tval) f = f ≡ trap_finding g pc bits cause tval
FindsBody g key (Regs pc x) f = f ≡ and_then (registers_check g.arch pc x) fine
FindsBody g key (Csrs mode v) f = f ≡ and_then (csrs_check g.arch mode v) fine
FindsBody g key (Load retire at paddr) f = IsLoadFinding g key retire at paddr f
FindsBody g key (Store pc bits paddr value) f = f ≡ store_finding g pc bits paddr value
FindsBody g key (Atomic retire paddr width wrote new) f =
    IsAtomicFinding g key retire.pc retire.bits (record { value = retire.value; paddr = paddr; width = width; wrote = wrote; new = new }) f
FindsBody g key (Drain line mask count bytes) f = f ≡ and_then (drain_check g.actions line mask count bytes key.seq) fine
FindsBody g key (Refill line bytes) f = f ≡ refill_finding g key line bytes
FindsBody g key Beat f = f ≡ passed NO_LETTERS

-- what it finds of the next record of a hart
abbrev pub Finds : Setting → Record → Result Passed Misfit → Type 0
Finds s r f = FindsBody (grounds_of s (key_in s r)) (key_in s r) r.body f
