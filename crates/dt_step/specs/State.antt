use Rattle.std.specs.Prelude.{ℕ, ◌≡◌, ◌+◌, ◌%◌, ◌^◌, ◌==◌, if◌then◌else◌, slice_index, slice_set, replicate}
use Rattle.dt_csr.specs.declared.modes.TheConstants.{MACHINE}
use Rattle.dt_csr.specs.Kept.{AreKeptInBounds, NamesMode}
use Rattle.dt_csr.specs.Modes.{IsMode}
use Rattle.dt_csr.specs.Registers.{reset_csrs}
use Rattle.dt_csr.specs.Traps.{entered, entered_pc, trap_mode}
use Rattle.dt_step.specs.declared.state.Arch.{Arch}

-- a state that a hart can have: x0 is 0, and the mode and the MPP of mstatus name modes
pub record IsArch (a : Arch) : Type 0 where
  pub zero : slice_index a.x 0 ≡ 0
  pub mode : IsMode a.mode
  pub mpp : NamesMode a.csrs.mstatus

-- what a hart keeps from a reset on, besides: the bounds on its registers of control and status, and an even pc (Volume
-- I, section 1.5, and Volume II, section 3.1.14)
pub record IsReachable (a : Arch) : Type 0 where
  pub csrs : AreKeptInBounds a.csrs
  pub pc : a.pc % 2 ≡ 0

-- the value of a register, where x0 is 0 (Volume I, section 2.1)
abbrev pub register : Arch → ℕ → ℕ
register a r = if r == 0 then 0 else slice_index a.x r

-- the state with another value in a register, where x0 stays 0
abbrev pub with_register : Arch → ℕ → ℕ → Arch
with_register a r value = record a { x = (if r == 0 then a.x else slice_set a.x r value) }

-- the state at the instruction some bytes further
abbrev pub further : Arch → ℕ → Arch
further a bytes = record a { pc = (a.pc + bytes) % 2 ^ 64 }

-- a hart after a reset (this project's own)
abbrev pub reset_arch : ℕ → Arch
reset_arch hart = record { pc = 0x8000_0000; x = replicate 32 0; csrs = reset_csrs; mode = MACHINE; hart = hart }

-- the state after a trap at the present instruction (Volume II, section 3.1.6.1)
abbrev pub trapped : Arch → ℕ → ℕ → Arch
trapped a cause tval = record a {
  pc = entered_pc a.csrs a.mode cause;
  csrs = entered a.csrs a.mode a.pc cause tval;
  mode = trap_mode a.csrs a.mode cause;
}
