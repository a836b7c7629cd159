use Rattle.std.proofs.Common.{◌≡◌}
use Rattle.dt_queue.specs.Queue.{feed_queue}
use Rattle.dt_queue.proofs.tests.feed_many.Given as goal

abbrev pub invariant-loop-stamp : goal.invariant-loop-stamp
invariant-loop-stamp g l = feed_queue l.feed ≡ feed_queue l.initial.feed
