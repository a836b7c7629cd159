use Rattle.std.specs.Prelude.{ℕ, ◌≡◌, ◌↔◌, ◌&&◌, Bool, Result, Ok, Err, IsTrue, ⊤}
use Rattle.dt_rules.specs.declared.misfits.Passed.{Passed}
use Rattle.dt_record.specs.declared.keys.Key.{Key}
use Rattle.dt_record.specs.declared.origins.Letters.{Letters}
use Rattle.dt_record.specs.Memory.{line_of, moment_of}
use Rattle.dt_rules.specs.declared.misfits.Misfit.{Misfit}
use Rattle.dt_rules.specs.declared.misfits.TheConstants.{NO_LETTERS}
use Rattle.dt_rules.specs.Checks.{and_then}
use Rattle.dt_rules.specs.Reservations.{is_live}
use Rattle.dt_atomics.specs.declared.accesses.AtomicAccess.{AtomicAccess}
use Rattle.dt_atomics.specs.Asking.{has_failed}
use Rattle.dt_atomics.specs.Draining.{all_drained_check}
use Rattle.dt_atomics.specs.Grounds.{AtomicGrounds}
use Rattle.dt_atomics.specs.Reading.{ReadsNewer, sources_of}
use Rattle.dt_atomics.specs.Values.{number_at, success_check, value_check, write_check}

-- The answer to an atomic, after its common start and its address (this project's own).

-- the hart has a live reservation of this line
abbrev pub may_succeed : AtomicGrounds → Key → AtomicAccess → Bool
may_succeed g key x = is_live g.writes g.reserved (line_of x.paddr) key

-- what memory holds for an atomic
abbrev pub old_value : AtomicGrounds → Key → AtomicAccess → ℕ
old_value g key x = number_at g.image g.writes (moment_of g.writes key) x.width x.paddr

-- the checks, in their order: its stores are drained, its success, its value, what it writes
abbrev pub access_check : AtomicGrounds → Key → AtomicAccess → Result ⊤ Misfit
access_check g key x =
    and_then (all_drained_check g.actions key x) (λ _.
    and_then (success_check (may_succeed g key x) x) (λ _.
    and_then (value_check (old_value g key x) x) (λ _.
    write_check (old_value g key x) x)))

-- an SC that failed though its reservation was live
abbrev pub fails_alive : AtomicGrounds → Key → AtomicAccess → Bool
fails_alive g key x = has_failed x && may_succeed g key x

-- the letters of an atomic: L, S, both or none
abbrev pub atomic_letters : (newer fails : Bool) → Letters
atomic_letters newer fails = record NO_LETTERS { l = newer; s = fails }

-- What an atomic that is allowed has: L where it reads what is newer, S where an SC failed though it might have
-- succeeded, no other letter, and the sources of what it reads.
pub record AtomicPasses (g : AtomicGrounds) (key : Key) (x : AtomicAccess) (passed : Passed) : Type 0 where
  pub newer : IsTrue passed.letters.l ↔ ReadsNewer g key x
  pub letters : passed.letters ≡ atomic_letters passed.letters.l (fails_alive g key x)
  pub sources : passed.sources ≡ sources_of g.writes (moment_of g.writes key) x

-- it is allowed where all checks hold, and refused by the first that fails where not
abbrev pub IsAtomicAnswer : AtomicGrounds → Key → AtomicAccess → Result Passed Misfit → Type 0
IsAtomicAnswer g key x (Ok passed) = (access_check g key x ≡ Ok tt) × AtomicPasses g key x passed
IsAtomicAnswer g key x (Err refused) = access_check g key x ≡ Err refused
