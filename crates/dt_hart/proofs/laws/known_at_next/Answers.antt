use Rattle.dt_hart.proofs.JudgedOn.{known_at}
use Rattle.dt_hart.proofs.laws.known_at_next.Goals as goal

pub returns : goal.returns
returns c = known_at c.knowing_goes_on.ensures c.judged_goes_on.ensures
