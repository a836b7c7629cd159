use Rattle.dt_judge.proofs.OneFinding.{one_finding}
use Rattle.dt_judge.proofs.laws.records_have_one_finding.Goals as goal

pub returns : goal.returns
returns c = one_finding c.loads_have_one_answer.ensures c.atomics_have_one_answer.ensures
