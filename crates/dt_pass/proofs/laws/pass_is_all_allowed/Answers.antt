use Rattle.dt_pass.proofs.Failing.{pass_is_all_allowed}
use Rattle.dt_pass.proofs.laws.pass_is_all_allowed.Goals as goal

pub returns : goal.returns
returns c = pass_is_all_allowed
