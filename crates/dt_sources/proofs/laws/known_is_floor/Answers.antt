use Rattle.dt_sources.proofs.KnownFloors.{known_floor}
use Rattle.dt_sources.proofs.laws.known_is_floor.Goals as goal

pub returns : goal.returns
returns c = known_floor
