use Rattle.dt_stores.proofs.GoingOn.{stay_below}
use Rattle.dt_stores.proofs.laws.drains_stay_below.Goals as goal

pub returns : goal.returns
returns c = stay_below
