use Rattle.std.specs.Prelude.{ℕ, Bool, false, List, []}
use Rattle.dt_record.specs.Actions.{Held}

-- What is kept of a hart (this project's own): its stores, the oldest first, and how many write-before-write and
-- write-before-read fences there were. Whether the past is kept, how many steps came before it, and the stores before
-- each step since then, oldest first: a store or a drain is a step, and a fence is none.
pub record Kept : Type 0 where
  pub held : List Held
  pub ww : ℕ
  pub wr : ℕ
  pub keeps : Bool
  pub from : ℕ
  pub past : List (List Held)

-- stores and fences without a past
abbrev pub without_past : List Held → (ww wr : ℕ) → Kept
without_past held ww wr = record { held = held; ww = ww; wr = wr; keeps = false; from = 0; past = [] }
