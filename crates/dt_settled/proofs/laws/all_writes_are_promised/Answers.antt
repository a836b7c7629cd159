use Rattle.dt_settled.proofs.AllWrites.{all-promised}
use Rattle.dt_settled.proofs.laws.all_writes_are_promised.Goals as goal

pub returns : goal.returns
returns c = all-promised
