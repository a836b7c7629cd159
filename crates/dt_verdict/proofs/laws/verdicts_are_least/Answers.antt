use Rattle.dt_verdict.proofs.LeastLaws.{verdicts_are_least}
use Rattle.dt_verdict.proofs.laws.verdicts_are_least.Goals as goal

pub returns : goal.returns
returns c = verdicts_are_least
