use Rattle.dt_settled.proofs.AllWrites.{orderly-all}
use Rattle.dt_settled.proofs.laws.orderly_writes_may_be_all.Goals as goal

pub returns : goal.returns
returns c = orderly-all c.below_mark_may_be_judged.ensures
