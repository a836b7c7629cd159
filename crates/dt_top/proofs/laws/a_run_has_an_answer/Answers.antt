use Rattle.dt_top.proofs.AnAnswer.{a_run_has_an_answer}
use Rattle.dt_top.proofs.laws.a_run_has_an_answer.Goals as goal

pub returns : goal.returns
returns c = a_run_has_an_answer c.one_list.ensures.some c.file_answers.ensures.of_answers c.a_file_has_a_check.ensures
