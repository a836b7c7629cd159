use Rattle.dt_sources.proofs.KnowingLaws.{knowing}
use Rattle.dt_sources.proofs.laws.knowing_goes_on.Goals as goal

pub returns : goal.returns
returns c = knowing
