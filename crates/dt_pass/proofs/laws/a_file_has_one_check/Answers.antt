use Rattle.dt_pass.proofs.OneCheck.{a_file_has_one_check}
use Rattle.dt_pass.proofs.laws.a_file_has_one_check.Goals as goal

pub returns : goal.returns
returns c = a_file_has_one_check c.runs_have_one_end.ensures c.writes_stand_in_order.ensures
