use Rattle.dt_core.proofs.Runs.{EveryRun-holds}
use Rattle.dt_core.proofs.laws.every_run_holds.Goals as goal

pub returns : goal.returns
returns g c = EveryRun-holds g.J.Judgement.meaning g.met.J.Judgement.reads_no_later_writes
