use Rattle.dt_runs.proofs.FileRecords.{file_records_are_own}
use Rattle.dt_runs.proofs.laws.file_records_are_own.Goals as goal

pub returns : goal.returns
returns c = file_records_are_own c.own_writes_are_of_records.ensures c.writes_stand_in_order.ensures
