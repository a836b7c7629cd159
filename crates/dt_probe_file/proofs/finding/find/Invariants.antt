use Rattle.std.proofs.Common.{◌≡◌, ◌⊎◌, ◌-◌, Some, length}
use Rattle.dt_probe_file.specs.Asking.{LeaveOpen}
use Rattle.dt_probe_file.specs.Parts.{ReadsOn, whole}
use Rattle.dt_probe_file.proofs.finding.find.Given as goal

-- nothing was taken away
abbrev pub invariant-loop-event : goal.invariant-loop-event
invariant-loop-event g l =
    let left = g.S.Source.left in
    record {
      whole : whole l.held (left l.source) ≡ whole l.fn.held (left l.fn.source);
      reads : ReadsOn l.fn.held (left l.fn.source) l.held (left l.source);
      idle : ((l.source ≡ l.fn.source) × (l.held ≡ l.fn.held)) ⊎ LeaveOpen (Some l.fn.opened) l.fn.held;
      quiet : g.S.Source.faults l.source ≡ g.S.Source.faults l.fn.source;
      same_lent : g.S.Source.lent l.source ≡ g.S.Source.lent l.fn.source;
    }

abbrev pub decreases-loop-event : goal.decreases-loop-event
decreases-loop-event g l = 1024 - length l.held
