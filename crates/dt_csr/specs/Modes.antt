use Rattle.std.specs.Prelude.{ℕ, ◌≡◌, ◌⊎◌}
use Rattle.dt_csr.specs.declared.modes.TheConstants.{USER, SUPERVISOR, MACHINE}

-- a number of a mode (Volume II, section 1.2)
abbrev pub IsMode : ℕ → Type 0
IsMode mode = (mode ≡ USER) ⊎ (mode ≡ SUPERVISOR) ⊎ (mode ≡ MACHINE)
