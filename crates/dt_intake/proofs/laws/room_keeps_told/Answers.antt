use Rattle.dt_intake.proofs.TellingLaws.{Room-told}
use Rattle.dt_intake.proofs.laws.room_keeps_told.Goals as goal

pub returns : goal.returns
returns c = Room-told
