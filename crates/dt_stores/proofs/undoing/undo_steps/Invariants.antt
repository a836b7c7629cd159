use Rattle.std.proofs.Common.{◌≡◌, ℕ, ◌≤◌, List, ◌++◌}
use Rattle.std.specs.VecDeque.{deque_len}
use Rattle.dt_stores.specs.declared.steps.Step.{Step}
use Rattle.dt_stores.specs.Lines.{taken_in, FindPlaces}
use Rattle.dt_stores.specs.Past.{buffer_of, before_steps, taken_before}
use Rattle.dt_stores.proofs.undoing.undo_steps.Given as goal

abbrev pub invariant-loop-kept : goal.invariant-loop-kept
invariant-loop-kept l = record {
  undone : List Step;
  items : l.initial.kept.items ≡ l.kept.items ++ undone;
  buffer : buffer_of l.entries.items l.first l.late.items ≡ before_steps (buffer_of l.initial.entries.items l.initial.first l.initial.late.items) undone;
  places : FindPlaces l.lines l.entries.items;
  taken : (line : ℕ) → taken_in l.lines line ≡ taken_before (taken_in l.initial.lines) undone line;
  within : l.count ≤ deque_len l.kept;
  fewer : deque_len l.kept ≤ deque_len l.initial.kept;
}

abbrev pub decreases-loop-kept : goal.decreases-loop-kept
decreases-loop-kept l = deque_len l.kept
