use Rattle.std.proofs.Common.{◌≡◌, ℕ}
use Rattle.dt_local.specs.LocalMemory.{greater}
use Rattle.dt_local.specs.Slots.{slot_key, AreWords, IsStepped}
use Rattle.dt_local.proofs.Raised.{noted_before}
use Rattle.dt_local.proofs.words.raise_all.Given as goal

abbrev pub invariant-loop-place : goal.invariant-loop-place
invariant-loop-place l = record {
  raised : (addr : ℕ) → slot_key l.slots.entries addr ≡ greater (slot_key l.initial.slots.entries addr) (noted_before l.line l.mask l.keys addr l.place);
  stepped : IsStepped l.initial.slots.entries l.slots.entries l.initial.steps l.steps l.place;
  words : AreWords l.slots;
}
