use Rattle.dt_windows.proofs.Undoing.{marks_stay}
use Rattle.dt_windows.proofs.laws.marks_stay_live.Goals as goal

pub returns : goal.returns
returns c = marks_stay
