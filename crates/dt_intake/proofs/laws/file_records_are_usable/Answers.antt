use Rattle.dt_intake.proofs.FileLaws.{FileRecords-usable}
use Rattle.dt_intake.proofs.laws.file_records_are_usable.Goals as goal

pub returns : goal.returns
returns c = FileRecords-usable
