use Rattle.dt_intake.proofs.FileLaws.{Told-announced}
use Rattle.dt_intake.proofs.laws.told_is_announced.Goals as goal

pub returns : goal.returns
returns c = Told-announced
