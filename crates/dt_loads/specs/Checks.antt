use Rattle.std.specs.Prelude.{ℕ, ◌==◌, Bool, List, Result, Ok, ⊤, nat_le}
use Rattle.dt_record.specs.declared.reasons.Reason.TheVariants.{Order, Adopt}
use Rattle.dt_record.specs.Actions.{Action, order_floor}
use Rattle.dt_stores.specs.declared.answers.Which.TheVariants.{BeforeWr}
use Rattle.dt_stores.specs.Oldest.{oldest_after}
use Rattle.dt_alu.specs.Extend.{extend_value}
use Rattle.dt_rules.specs.declared.misfits.Misfit.{Misfit}
use Rattle.dt_rules.specs.Checks.{misfit, check, none_left}

-- What is checked of a load beside what RAM gives (this project's own).

-- a load from a device gives any value that is the extension of its own low bytes
abbrev pub device_check : ℕ → Bool → ℕ → Result ⊤ Misfit
device_check width signed value =
    check (extend_value width signed value == value) (misfit Adopt (extend_value width signed value) value) (Ok tt)

-- A load from RAM in a cycle, after some actions of its hart: the cycle is not below the order floor,
-- and no store before the last write-before-read fence is undrained in it.
abbrev pub order_check : List Action → (at : ℕ) → Result ⊤ Misfit
order_check actions at =
    check (nat_le (order_floor actions) at) (misfit Order (order_floor actions) at) (none_left Order (oldest_after actions BeforeWr at) at)
