use Rattle.dt_writes.proofs.WritesOfRecords.{IsKept-writes_of}
use Rattle.dt_writes.proofs.laws.file_history_is_kept.Goals as goal

pub returns : goal.returns
returns c = IsKept-writes_of
