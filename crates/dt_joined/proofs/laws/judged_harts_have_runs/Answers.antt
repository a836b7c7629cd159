use Rattle.dt_joined.proofs.Joining.{judged_runs}
use Rattle.dt_joined.proofs.laws.judged_harts_have_runs.Goals as goal

pub returns : goal.returns
returns c = judged_runs c.runs_come_to_an_end.ensures
