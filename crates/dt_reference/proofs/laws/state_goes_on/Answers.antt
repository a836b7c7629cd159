use Rattle.dt_reference.specs.Run.{start_of}
use Rattle.dt_reference.proofs.GoingOn.{state_from-snoc}
use Rattle.dt_reference.proofs.laws.state_goes_on.Goals as goal

-- src/laws.rt:13:1
pub returns : goal.returns
returns c hart wide records r = state_from-snoc (start_of hart wide) records r
