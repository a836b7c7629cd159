use Rattle.dt_settled.proofs.AllWrites.{fronts-tell}
use Rattle.dt_settled.proofs.laws.fronts_tell_all_writes.Goals as goal

pub returns : goal.returns
returns c = fronts-tell
