use Rattle.dt_record.proofs.Waiting.{undrained-wait}
use Rattle.dt_record.proofs.laws.undrained_wait.Goals as goal

pub returns : goal.returns
returns c = undrained-wait
