use Rattle.dt_core.proofs.Counterexample.{below-needed}
use Rattle.dt_core.proofs.laws.below_is_needed.Goals as goal

pub returns : goal.returns
returns c = below-needed
