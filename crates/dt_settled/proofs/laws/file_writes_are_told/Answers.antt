use Rattle.dt_settled.proofs.AllWrites.{writes-told}
use Rattle.dt_settled.proofs.laws.file_writes_are_told.Goals as goal

pub returns : goal.returns
returns c = writes-told
