use Rattle.std.proofs.Common.{◌≡◌, ℕ, ◌+◌, ◌*◌, ◌<◌, ◌≤◌}
use Rattle.dt_local.specs.LocalMemory.{greater}
use Rattle.dt_local.specs.Slots.{key_at, noted_in}
use Rattle.dt_local.proofs.slots.raise_slot.Given as goal

abbrev pub invariant-loop-byte : goal.invariant-loop-byte
invariant-loop-byte l = record {
  raised : (b : ℕ) → b < l.byte → key_at l.slot b ≡ greater (key_at l.initial.slot b) (noted_in l.mask l.keys (8 * l.place + b));
  same : (b : ℕ) → l.byte ≤ b → b < 8 → key_at l.slot b ≡ key_at l.initial.slot b;
}
