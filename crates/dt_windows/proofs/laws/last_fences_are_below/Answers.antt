use Rattle.dt_windows.proofs.Taking.{last_fences_below}
use Rattle.dt_windows.proofs.laws.last_fences_are_below.Goals as goal

pub returns : goal.returns
returns c = last_fences_below
