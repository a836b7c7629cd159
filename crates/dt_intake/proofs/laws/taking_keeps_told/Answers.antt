use Rattle.dt_intake.proofs.TellingLaws.{Taking-told}
use Rattle.dt_intake.proofs.laws.taking_keeps_told.Goals as goal

pub returns : goal.returns
returns c = Taking-told
