use Rattle.std.proofs.Common.{◌≡◌, ◌⊎◌, ◌-◌, None, length}
use Rattle.dt_probe_file.specs.Asking.{LeaveOpen}
use Rattle.dt_probe_file.specs.Parts.{ReadsOn, whole}
use Rattle.dt_probe_file.proofs.finding.hear.Given as goal

-- nothing was taken away
abbrev pub invariant-loop-version : goal.invariant-loop-version
invariant-loop-version g l =
    let left = g.S.Source.left in
    record {
      whole : whole l.held (left l.source) ≡ whole l.fn.held (left l.fn.source);
      reads : ReadsOn l.fn.held (left l.fn.source) l.held (left l.source);
      idle : ((l.source ≡ l.fn.source) × (l.held ≡ l.fn.held)) ⊎ LeaveOpen None l.fn.held;
      quiet : g.S.Source.faults l.source ≡ g.S.Source.faults l.fn.source;
      same_lent : g.S.Source.lent l.source ≡ g.S.Source.lent l.fn.source;
    }

abbrev pub decreases-loop-version : goal.decreases-loop-version
decreases-loop-version g l = 16 - length l.held
