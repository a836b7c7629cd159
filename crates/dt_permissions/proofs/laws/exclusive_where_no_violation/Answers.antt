use Rattle.dt_permissions.proofs.Exclusive.{exclusive}
use Rattle.dt_permissions.proofs.laws.exclusive_where_no_violation.Goals as goal

pub returns : goal.returns
returns c = exclusive
