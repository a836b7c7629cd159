use Rattle.dt_verdict.proofs.LeastLaws.{Stands-more, Stands-all, Stands-value, Stands-least}
use Rattle.dt_verdict.proofs.verdicts.least.Goals as goal

pub loop-outcome-preserved : goal.loop-outcome-preserved
loop-outcome-preserved c =
    rw c.joined-verdict.ensures
    (Stands-more c.args.outcomes.now c.loop-outcome.outcome-index _ c.loop-outcome.verdict c.loop-outcome-test.true c.loop-outcome.invariant)

pub returns-clause-value : goal.returns-clause-value
returns-clause-value c =
    let xs = c.args.outcomes.now in
    Stands-value xs c.loop-outcome.verdict (Stands-all xs c.loop-outcome.outcome-index c.loop-outcome.verdict c.loop-outcome-test.false c.loop-outcome.invariant)

pub returns-clause-least : goal.returns-clause-least
returns-clause-least c =
    let xs = c.args.outcomes.now in
    Stands-least xs c.loop-outcome.verdict (Stands-all xs c.loop-outcome.outcome-index c.loop-outcome.verdict c.loop-outcome-test.false c.loop-outcome.invariant)
