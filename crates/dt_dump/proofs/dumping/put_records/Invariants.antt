use Rattle.std.proofs.Common.{◌≡◌, ◌≤◌, ℕ, List, Option}
use Rattle.dt_reading.specs.Underway.{remaining}
use Rattle.dt_dump.proofs.Dumped.{HasDumped}
use Rattle.dt_dump.proofs.dumping.put_records.Given as goal

-- the lines of the records that came were written
abbrev pub invariant-loop-event : goal.invariant-loop-event
invariant-loop-event g l =
    let left = g.P.Probes.left in
    let written = g.O.Sink.written in
    record {
      dumped : HasDumped (left l.fn.probes) (left l.probes) (written l.fn.out) (written l.out) l.counts (g.P.Probes.progress l.probes);
      probes_counted : g.P.Probes.faults l.fn.probes ≤ g.P.Probes.faults l.probes;
      out_counted : g.O.Sink.faults l.fn.out ≤ g.O.Sink.faults l.out;
      same_origin : (bytes : Option (List ℕ)) → g.P.Probes.has_origin l.fn.probes bytes → g.P.Probes.has_origin l.probes bytes;
      same_lent : g.P.Probes.lent l.probes ≡ g.P.Probes.lent l.fn.probes;
    }

abbrev pub decreases-loop-event : goal.decreases-loop-event
decreases-loop-event g l = remaining (g.P.Probes.progress l.probes)
