use Rattle.std.proofs.Common.{◌≡◌, ℕ, take}
use Rattle.std.specs.Prelude.{if◌then◌else◌, is_some}
use Rattle.std.specs.Int.{bit_at}
use Rattle.dt_hart.specs.Following.{read_key}
use Rattle.dt_hart.proofs.notes.mask_of.Given as goal

-- the mask has the bytes from writes among those so far
abbrev pub invariant-loop-i : goal.invariant-loop-i
invariant-loop-i l = (at : ℕ) → bit_at l.mask at ≡ (if is_some (read_key l.place (take l.i l.from) at) then 1 else 0)
