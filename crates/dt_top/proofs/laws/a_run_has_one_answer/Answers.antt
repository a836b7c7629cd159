use Rattle.dt_top.proofs.OneAnswer.{a_run_has_one_answer}
use Rattle.dt_top.proofs.laws.a_run_has_one_answer.Goals as goal

pub returns : goal.returns
returns c = a_run_has_one_answer c.one_list.ensures.one c.a_file_has_one_check.ensures
