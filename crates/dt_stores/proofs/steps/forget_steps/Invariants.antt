use Rattle.std.proofs.Common.{◌≡◌, ◌+◌, drop}
use Rattle.std.specs.VecDeque.{deque_len}
use Rattle.dt_stores.proofs.steps.forget_steps.Given as goal

abbrev pub invariant-loop : goal.invariant-loop
invariant-loop l = record {
  kept : l.kept.items ≡ drop l.counter l.initial.kept.items;
  len : deque_len l.kept + l.counter ≡ deque_len l.initial.kept;
}
