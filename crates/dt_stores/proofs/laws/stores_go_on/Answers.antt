use Rattle.dt_stores.proofs.GoingOn.{going_on}
use Rattle.dt_stores.proofs.laws.stores_go_on.Goals as goal

pub returns : goal.returns
returns c = going_on
