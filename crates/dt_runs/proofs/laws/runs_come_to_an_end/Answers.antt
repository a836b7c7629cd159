use Rattle.dt_runs.proofs.Ending.{come_to_an_end}
use Rattle.dt_runs.proofs.laws.runs_come_to_an_end.Goals as goal

pub returns : goal.returns
returns c = come_to_an_end
