use Rattle.std.proofs.Common.{◌≡◌}
use Rattle.dt_queue.specs.Queue.{take_queue}
use Rattle.dt_queue.proofs.tests.take_many.Given as goal

abbrev pub invariant-loop-stamp : goal.invariant-loop-stamp
invariant-loop-stamp g l = take_queue l.take ≡ take_queue l.initial.take
