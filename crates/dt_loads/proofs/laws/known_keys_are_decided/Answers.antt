use Rattle.dt_loads.proofs.Deciding.{above}
use Rattle.dt_loads.proofs.laws.known_keys_are_decided.Goals as goal

pub returns : goal.returns
returns c = above
