use Rattle.std.proofs.Common.{◌≡◌, ◌≤◌, ℕ, List, Option, Some}
use Rattle.dt_reading.specs.Reading.{with_header}
use Rattle.dt_reading.specs.Underway.{IsUnderway, remaining}
use Rattle.dt_pass.proofs.reading.read_behind.Given as goal

-- the records that came are listed
abbrev pub invariant-loop-event : goal.invariant-loop-event
invariant-loop-event g l =
    let left = g.P.Probes.left in
    let now = g.P.Probes.progress l.probes in
    record {
      underway : IsUnderway (with_header l.harts l.wide (left l.fn.probes)) (left l.probes) l.harts l.wide l.records.items now;
      headed : now.harts ≡ Some l.harts;
      counted : g.P.Probes.faults l.fn.probes ≤ g.P.Probes.faults l.probes;
      same_origin : (bytes : Option (List ℕ)) → g.P.Probes.has_origin l.fn.probes bytes → g.P.Probes.has_origin l.probes bytes;
      same_lent : g.P.Probes.lent l.probes ≡ g.P.Probes.lent l.fn.probes;
    }

abbrev pub decreases-loop-event : goal.decreases-loop-event
decreases-loop-event g l = remaining (g.P.Probes.progress l.probes)
