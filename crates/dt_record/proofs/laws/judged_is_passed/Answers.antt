use Rattle.dt_record.proofs.Passing.{judged-is_passed}
use Rattle.dt_record.proofs.laws.judged_is_passed.Goals as goal

pub returns : goal.returns
returns c = judged-is_passed
