use Rattle.dt_refills.proofs.Lines.{same_refills}
use Rattle.dt_refills.proofs.laws.first_writes_decide_refills.Goals as goal

pub returns : goal.returns
returns c = same_refills
