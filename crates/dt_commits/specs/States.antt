use Rattle.std.specs.Prelude.{ℕ, List, ◌∷◌, drop, Result}
use Rattle.dt_record.specs.declared.reasons.Reason.TheVariants.{State}
use Rattle.dt_csr.specs.Kept.{values_of}
use Rattle.dt_step.specs.declared.state.Arch.{Arch}
use Rattle.dt_rules.specs.declared.misfits.Misfit.{Misfit}
use Rattle.dt_rules.specs.Checks.{first_difference}

-- What records of a hart's state show (this project's own).

-- the pc, then x1 to x31
abbrev pub registers_check : Arch → (pc : ℕ) → (x : List ℕ) → Result (Unit {0}) Misfit
registers_check a pc x = first_difference State (a.pc ∷ drop 1 a.x) (pc ∷ x)

-- the mode, then the 17 registers of control and status that are kept, in their order
abbrev pub csrs_check : Arch → (mode : ℕ) → (v : List ℕ) → Result (Unit {0}) Misfit
csrs_check a mode v = first_difference State (a.mode ∷ values_of a.csrs) (mode ∷ v)
