use Rattle.dt_worker.proofs.EndLaws.{own-history}
use Rattle.dt_worker.proofs.laws.outcomes_over_its_own_history.Goals as goal

pub returns : goal.returns
returns c = own-history c.orderly_writes_may_be_all.ensures
