use Rattle.dt_core.proofs.Chances.{BelowMark-judged}
use Rattle.dt_core.proofs.laws.below_mark_may_be_judged.Goals as goal

pub returns : goal.returns
returns c = BelowMark-judged
