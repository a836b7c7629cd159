use Rattle.dt_pass.proofs.Failing.{fail_is_first}
use Rattle.dt_pass.proofs.laws.fail_is_first.Goals as goal

pub returns : goal.returns
returns c = fail_is_first
