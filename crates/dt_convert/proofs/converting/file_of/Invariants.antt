use Rattle.std.proofs.Common.{◌≡◌, ◌≤◌, ℕ, List, Option}
use Rattle.dt_reading.specs.Underway.{remaining}
use Rattle.dt_convert.specs.Convert.{version_of}
use Rattle.dt_convert.proofs.Drafts.{IsDraft}
use Rattle.dt_convert.proofs.converting.file_of.Given as goal

-- the bytes are the header and the records that came
abbrev pub invariant-loop-harts : goal.invariant-loop-harts
invariant-loop-harts g l =
    let left = g.P.Probes.left in
    record {
      draft : IsDraft (left l.fn.probes) (left l.probes) (version_of l.version) l.bytes.items l.stamps (g.P.Probes.progress l.probes);
      counted : g.P.Probes.faults l.fn.probes ≤ g.P.Probes.faults l.probes;
      same_origin : (bytes : Option (List ℕ)) → g.P.Probes.has_origin l.fn.probes bytes → g.P.Probes.has_origin l.probes bytes;
      same_lent : g.P.Probes.lent l.probes ≡ g.P.Probes.lent l.fn.probes;
    }

abbrev pub decreases-loop-harts : goal.decreases-loop-harts
decreases-loop-harts g l = remaining (g.P.Probes.progress l.probes)
