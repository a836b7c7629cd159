use Rattle.dt_atomics.proofs.OneAnswer.{one_answer}
use Rattle.dt_atomics.proofs.laws.atomics_have_one_answer.Goals as goal

pub returns : goal.returns
returns c = one_answer
