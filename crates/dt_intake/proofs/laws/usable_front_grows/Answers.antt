use Rattle.dt_intake.proofs.FrontLaws.{front_after-grows}
use Rattle.dt_intake.proofs.laws.usable_front_grows.Goals as goal

pub returns : goal.returns
returns c = λ hart taken more. front_after-grows hart 0 0 taken more
