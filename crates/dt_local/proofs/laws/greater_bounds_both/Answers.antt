use Rattle.dt_local.proofs.Bounds.{is_at_least-greater}
use Rattle.dt_local.proofs.laws.greater_bounds_both.Goals as goal

pub returns : goal.returns
returns c = is_at_least-greater
