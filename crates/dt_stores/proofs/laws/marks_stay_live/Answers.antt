use Rattle.dt_stores.proofs.GoingBack.{marks_stay}
use Rattle.dt_stores.proofs.laws.marks_stay_live.Goals as goal

pub returns : goal.returns
returns c = marks_stay
