-- The access that an instruction asks for is aligned: one that is not raises a cause by itself.
use Rattle.std.specs.Prelude.{ℕ, ◌≡◌, ◌%◌}
use Rattle.dt_alu.specs.Amo.{IsAmoWidth}
use Rattle.dt_alu.specs.Extend.{IsAccessWidth}
use Rattle.dt_step.specs.declared.plans.Planned.{Planned}
use Rattle.dt_step.specs.declared.plans.Planned.TheVariants.{NeedsLoad, NeedsStore, NeedsAtomic}

-- an access of 1, 2, 4 or 8 bytes, at a multiple of its width
pub record IsAligned (va width : ℕ) : Type 0 where
  pub bytes : IsAccessWidth width
  pub multiple : va % width ≡ 0

-- an atomic access, of 4 or 8 bytes, at a multiple of its width
pub record IsAlignedAtomic (va width : ℕ) : Type 0 where
  pub bytes : IsAmoWidth width
  pub multiple : va % width ≡ 0

-- the access that a plan asks for, if any, is aligned
abbrev pub AccessesAligned : Planned → Type 0
AccessesAligned (NeedsLoad va width signed rd) = IsAligned va width
AccessesAligned (NeedsStore va width value) = IsAligned va width
AccessesAligned (NeedsAtomic va width op aq rl rd operand) = IsAlignedAtomic va width
AccessesAligned plan = Unit {0}
