use Rattle.std.specs.Prelude.{ℕ, Bool, Option, List}
use Rattle.dt_record.specs.declared.keys.Key.{Key}
use Rattle.dt_step.specs.declared.state.Arch.{Arch}
use Rattle.dt_stores.specs.Kept.{Kept}
use Rattle.dt_windows.specs.Kept.{WindowsView}

-- What is kept of a hart (this project's own): its state, how many of its records there were and the stamp of the last
-- of them, 0 before the first; its store buffer; the newest key that it knows for each byte; the cycle that its next load
-- may not be below, and the greatest cycle in which it read memory; the line and the LR's key of its reservation; and its
-- last fences of pages and of instructions. Whether the past of the keys is kept, how many steps came before it, and the
-- keys before each step since then, oldest first.
pub record HartView : Type 0 where
  pub arch : Arch
  pub seq : ℕ
  pub stamp : ℕ
  pub stores : Kept
  pub keys : List (ℕ × Key)
  pub floor : ℕ
  pub last_read : ℕ
  pub reserved : Option (ℕ × Key)
  pub windows : WindowsView
  pub keeps : Bool
  pub from : ℕ
  pub past : List (List (ℕ × Key))
