use Rattle.dt_record.specs.ProbeFile.{no_stamps}
use Rattle.dt_writes.proofs.WritesOfRecords.{filter-writes_of}
use Rattle.dt_writes.proofs.laws.own_writes_are_of_records.Goals as goal

pub returns : goal.returns
returns c = λ records hart file. filter-writes_of file.harts no_stamps hart records file.each
