use Rattle.std.proofs.Common.{take}
use Rattle.dt_verdict.specs.Verdict.{failures_of}
use Rattle.dt_verdict.proofs.LeastLaws.{Stands}
use Rattle.dt_verdict.proofs.verdicts.least.Given as goal

-- the verdict is that of the harts so far
abbrev pub invariant-loop-outcome : goal.invariant-loop-outcome
invariant-loop-outcome l = Stands (failures_of (take l.outcome-index l.outcomes)) l.verdict
