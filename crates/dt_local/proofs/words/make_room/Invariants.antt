use Rattle.std.proofs.Common.{ℕ, ◌+◌, ◌/◌, ◌<◌, IsTrue, IsSome}
use Rattle.std.specs.Ordering.{nat_cmp}
use Rattle.std.specs.BTreeMap.{get}
use Rattle.dt_local.specs.Slots.{has_word, AreWords, IsWidened}
use Rattle.dt_local.proofs.words.make_room.Given as goal

abbrev pub invariant-loop-place : goal.invariant-loop-place
invariant-loop-place l = record {
  words : AreWords l.slots;
  widened : IsWidened l.initial.slots.entries l.slots.entries;
  room : (k : ℕ) → k < l.place → IsTrue (has_word l.mask k) → IsSome (get nat_cmp l.slots (l.line / 8 + k));
}
