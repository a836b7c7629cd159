use Rattle.dt_hart.proofs.FencesOn.{fences_earlier}
use Rattle.dt_hart.proofs.laws.fences_are_earlier.Goals as goal

pub returns : goal.returns
returns c = fences_earlier
