use Rattle.dt_sources.proofs.Fronts.{fronts_have}
use Rattle.dt_sources.proofs.laws.fronts_have_sources.Goals as goal

pub returns : goal.returns
returns c = fronts_have
