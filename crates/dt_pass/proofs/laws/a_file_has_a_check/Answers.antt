use Rattle.dt_pass.proofs.ACheck.{a_file_has_a_check}
use Rattle.dt_pass.proofs.laws.a_file_has_a_check.Goals as goal

pub returns : goal.returns
returns c = a_file_has_a_check c.runs_have_an_end.ensures c.writes_stand_in_order.ensures c.verdicts_are_least.ensures
