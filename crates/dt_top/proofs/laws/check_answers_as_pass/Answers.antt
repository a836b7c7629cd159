use Rattle.dt_top.proofs.SameReport.{check_answers_as_pass}
use Rattle.dt_top.proofs.laws.check_answers_as_pass.Goals as goal

pub returns : goal.returns
returns c = check_answers_as_pass
