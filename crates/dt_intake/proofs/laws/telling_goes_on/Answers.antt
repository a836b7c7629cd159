use Rattle.dt_intake.proofs.TellingLaws.{Telling-told}
use Rattle.dt_intake.proofs.laws.telling_goes_on.Goals as goal

pub returns : goal.returns
returns c = Telling-told
