use Rattle.dt_stores.proofs.StandingLaws.{stands_loaded}
use Rattle.dt_stores.proofs.laws.loads_keep_stores.Goals as goal

pub returns : goal.returns
returns c = stands_loaded
