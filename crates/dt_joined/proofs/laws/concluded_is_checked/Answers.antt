use Rattle.dt_joined.proofs.Joining.{concluded}
use Rattle.dt_joined.proofs.laws.concluded_is_checked.Goals as goal

pub returns : goal.returns
returns c = concluded
