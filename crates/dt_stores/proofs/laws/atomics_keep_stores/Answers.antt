use Rattle.dt_stores.proofs.StandingLaws.{stands_atomic}
use Rattle.dt_stores.proofs.laws.atomics_keep_stores.Goals as goal

pub returns : goal.returns
returns c = stands_atomic
