use Rattle.std.proofs.Common.{◌≡◌}
use Rattle.dt_queue.specs.Queue.{take_queue}
use Rattle.dt_queue.proofs.tests.pop_waiting.Given as goal

abbrev pub invariant-loop : goal.invariant-loop
invariant-loop g l = take_queue l.take ≡ take_queue l.initial.take
