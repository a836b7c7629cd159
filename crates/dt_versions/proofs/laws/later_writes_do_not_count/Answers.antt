use Rattle.dt_versions.proofs.LaterWrites.{AreAlike-writes_until}
use Rattle.dt_versions.proofs.laws.later_writes_do_not_count.Goals as goal

pub returns : goal.returns
returns c = AreAlike-writes_until
