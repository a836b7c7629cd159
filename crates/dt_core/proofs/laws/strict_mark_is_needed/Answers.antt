use Rattle.dt_core.proofs.Counterexample.{strict-needed}
use Rattle.dt_core.proofs.laws.strict_mark_is_needed.Goals as goal

pub returns : goal.returns
returns c = strict-needed
