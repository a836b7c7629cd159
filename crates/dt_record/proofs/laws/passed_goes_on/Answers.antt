use Rattle.dt_record.proofs.Passing.{passed-goes_on}
use Rattle.dt_record.proofs.laws.passed_goes_on.Goals as goal

pub returns : goal.returns
returns c = passed-goes_on
