use Rattle.dt_versions.proofs.VisibleEnds.{AreVisible-ends}
use Rattle.dt_versions.proofs.laws.visible_is_interval.Goals as goal

pub returns : goal.returns
returns c = AreVisible-ends
