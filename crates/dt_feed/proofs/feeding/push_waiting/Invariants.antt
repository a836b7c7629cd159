use Rattle.std.proofs.Common.{◌≡◌}
use Rattle.dt_queue.specs.Queue.{fed, feed_queue}
use Rattle.dt_feed.proofs.feeding.push_waiting.Given as goal

abbrev pub invariant-loop : goal.invariant-loop
invariant-loop g l = record {
  queue : feed_queue l.feed ≡ feed_queue l.initial.feed;
  fed : fed l.feed ≡ fed l.initial.feed;
  pass : l.pass ≡ record l.initial.pass { saw_stop = l.pass.saw_stop };
}
