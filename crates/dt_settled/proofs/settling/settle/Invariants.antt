use Rattle.std.proofs.Common.{length}
use Rattle.dt_settled.specs.Settling.{Moves}
use Rattle.dt_settled.proofs.settling.settle.Given as goal

abbrev pub invariant-loop-w : goal.invariant-loop-w
invariant-loop-w l = Moves l.least l.fn.moments l.fn.waiting l.moments l.waiting

abbrev pub decreases-loop-w : goal.decreases-loop-w
decreases-loop-w l = length l.waiting
