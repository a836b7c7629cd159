use Rattle.dt_atomics.proofs.FirstWrites.{first_writes_decide}
use Rattle.dt_atomics.proofs.laws.first_writes_decide_atomics.Goals as goal

pub returns : goal.returns
returns c = first_writes_decide
