use Rattle.std.specs.Prelude.{ℕ, ◌==◌, Bool, if◌then◌else◌, Option, None, Some, List, [], ◌∷◌, Result, Ok, Err, ⊤}
use Rattle.dt_record.specs.declared.reasons.Reason.{Reason}
use Rattle.dt_rules.specs.declared.misfits.Misfit.{Misfit}

-- Checks of a record, one after another: the first that fails decides (this project's own).

abbrev pub misfit : Reason → (expected found : ℕ) → Misfit
misfit reason expected found = record { reason = reason; expected = expected; found = found }

-- a check: where it fails, the misfit; else what the later checks give
abbrev pub check : {A : Type 0} → Bool → Misfit → Result A Misfit → Result A Misfit
check holds refused later = if holds then later else Err refused

-- a check that gives something to the later ones
abbrev pub and_then : {A B : Type 0} → Result A Misfit → (A → Result B Misfit) → Result B Misfit
and_then (Ok x) later = later x
and_then (Err refused) later = Err refused

-- no store is left of those that a record waits for; else the oldest is the one expected to be drained before it
abbrev pub none_left : Reason → (oldest : Option ℕ) → (found : ℕ) → Result ⊤ Misfit
none_left reason None found = Ok tt
none_left reason (Some oldest) found = Err (misfit reason oldest found)

-- the numbers are those that are due, else the first two that differ
abbrev pub first_difference : Reason → (dues found : List ℕ) → Result ⊤ Misfit
first_difference reason [] found = Ok tt
first_difference reason (due ∷ dues) [] = Ok tt
first_difference reason (due ∷ dues) (found ∷ more) = check (due == found) (misfit reason due found) (first_difference reason dues more)
