use Rattle.std.proofs.Common.{◌≡◌}
use Rattle.dt_queue.specs.Queue.{feed_queue}
use Rattle.dt_queue.proofs.tests.push_waiting.Given as goal

abbrev pub invariant-loop : goal.invariant-loop
invariant-loop g l = feed_queue l.feed ≡ feed_queue l.initial.feed
