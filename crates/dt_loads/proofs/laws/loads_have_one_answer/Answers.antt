use Rattle.dt_loads.proofs.OneAnswer.{one_answer}
use Rattle.dt_loads.proofs.laws.loads_have_one_answer.Goals as goal

pub returns : goal.returns
returns c = one_answer
