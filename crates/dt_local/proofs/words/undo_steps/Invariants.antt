use Rattle.std.proofs.Common.{◌≡◌, ℕ, ◌≤◌, List, ◌++◌, IsSome}
use Rattle.std.specs.Ordering.{nat_cmp}
use Rattle.std.specs.BTreeMap.{get}
use Rattle.std.specs.VecDeque.{deque_len}
use Rattle.dt_local.specs.declared.steps.Step.{Step}
use Rattle.dt_local.specs.Slots.{before_steps, AreWords}
use Rattle.dt_local.proofs.words.undo_steps.Given as goal

abbrev pub invariant-loop-kept : goal.invariant-loop-kept
invariant-loop-kept l = record {
  undone : List Step;
  items : l.initial.kept.items ≡ l.kept.items ++ undone;
  entries : l.slots.entries ≡ before_steps l.initial.slots.entries undone;
  words : AreWords l.slots;
  have : (word : ℕ) → IsSome (get nat_cmp l.initial.slots word) → IsSome (get nat_cmp l.slots word);
  within : l.count ≤ deque_len l.kept;
  fewer : deque_len l.kept ≤ deque_len l.initial.kept;
}

abbrev pub decreases-loop-kept : goal.decreases-loop-kept
decreases-loop-kept l = deque_len l.kept
