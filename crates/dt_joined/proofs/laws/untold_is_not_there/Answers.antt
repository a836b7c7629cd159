use Rattle.dt_joined.proofs.Tellers.{untold}
use Rattle.dt_joined.proofs.laws.untold_is_not_there.Goals as goal

pub returns : goal.returns
returns c = untold
