use Rattle.dt_sources.proofs.KnownFloors.{known_fit}
use Rattle.dt_sources.proofs.laws.known_fit_is_fit.Goals as goal

pub returns : goal.returns
returns c = known_fit
