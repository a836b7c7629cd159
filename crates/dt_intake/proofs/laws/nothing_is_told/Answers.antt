use Rattle.dt_intake.proofs.TellingLaws.{Nothing-told}
use Rattle.dt_intake.proofs.laws.nothing_is_told.Goals as goal

pub returns : goal.returns
returns c = Nothing-told
