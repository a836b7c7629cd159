use Rattle.dt_windows.proofs.Taking.{stands_other}
use Rattle.dt_windows.proofs.laws.other_plans_keep_windows.Goals as goal

pub returns : goal.returns
returns c = stands_other
