use Rattle.dt_local.proofs.Undoing.{marks_stay}
use Rattle.dt_local.proofs.laws.marks_stay_live.Goals as goal

pub returns : goal.returns
returns c = marks_stay
