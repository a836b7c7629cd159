use Rattle.std.specs.Prelude.{ℕ, ◌≡◌, ◌+◌, ◌^◌, IsTrue}
use Rattle.dt_csr.specs.declared.state.Csrs.{Csrs}
use Rattle.dt_csr.specs.Traps.{is_enabled}

-- the cause is that of an interrupt whose code is enabled: 2 ^ 63 plus the code (The RISC-V
-- Instruction Set Manual, Volume II, 20211203, section 3.1.15)
abbrev pub IsEnabledInterrupt : Csrs → ℕ → ℕ → Type 0
IsEnabledInterrupt c mode cause = (code : ℕ) × (cause ≡ 2 ^ 63 + code) × IsTrue (is_enabled c mode code)
