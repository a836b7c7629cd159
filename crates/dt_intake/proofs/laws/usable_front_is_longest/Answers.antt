use Rattle.dt_intake.proofs.FrontLaws.{UsableFront-longest}
use Rattle.dt_intake.proofs.laws.usable_front_is_longest.Goals as goal

pub returns : goal.returns
returns c = UsableFront-longest
