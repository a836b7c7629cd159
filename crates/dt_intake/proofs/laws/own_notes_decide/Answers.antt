use Rattle.dt_intake.proofs.TellingLaws.{Own-decides}
use Rattle.dt_intake.proofs.laws.own_notes_decide.Goals as goal

pub returns : goal.returns
returns c = Own-decides
