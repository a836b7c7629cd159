use Rattle.std.proofs.Common.{◌≡◌}
use Rattle.dt_feed.specs.Feeding.{AreFed, ends_of}
use Rattle.dt_feed.proofs.feeding.feed_ends.Given as goal

-- the queues of the harts so far have their ends
abbrev pub invariant-loop-hart : goal.invariant-loop-hart
invariant-loop-hart g l = record {
  pushed : AreFed (ends_of l.hart) l.initial.feeds.items l.feeds.items;
  pass : l.pass ≡ record l.initial.pass { saw_stop = l.pass.saw_stop };
}
