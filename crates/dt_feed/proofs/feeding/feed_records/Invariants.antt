use Rattle.std.proofs.Common.{◌≡◌, ◌≤◌, ℕ, List, Option, length, Some}
use Rattle.dt_reading.specs.Reading.{with_header}
use Rattle.dt_feed.proofs.Parts.{AreFeeding}
use Rattle.dt_feed.proofs.feeding.feed_records.Given as goal

-- the records that were given so far are fed
abbrev pub invariant-loop : goal.invariant-loop
invariant-loop g l =
    let left = g.P.Probes.left in
    let now = g.P.Probes.progress l.probes in
    let harts = length l.initial.feeds.items in
    let wide = (g.P.Probes.progress l.initial.probes).wide in
    record {
      feeding : AreFeeding (with_header harts wide (left l.initial.probes)) (left l.probes) harts wide now l.initial.feeds.items l.feeds.items;
      headed : now.harts ≡ Some harts;
      size : length l.feeds.items ≡ harts;
      numbered : l.n ≡ now.events;
      counted : g.P.Probes.faults l.initial.probes ≤ g.P.Probes.faults l.probes;
      same_origin : (bytes : Option (List ℕ)) → g.P.Probes.has_origin l.initial.probes bytes → g.P.Probes.has_origin l.probes bytes;
      same_lent : g.P.Probes.lent l.probes ≡ g.P.Probes.lent l.initial.probes;
      pass : l.pass ≡ record l.initial.pass { saw_stop = l.pass.saw_stop };
    }
