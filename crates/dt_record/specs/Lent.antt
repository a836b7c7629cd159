-- The record that one with lent fields stands for (this project's own).
use Rattle.dt_record.specs.declared.records.Record.{Record}
use Rattle.dt_record.specs.declared.lent.RecordAt.{RecordAt}
use Rattle.dt_record.specs.LentBodies.{body_of}

-- the record with lent fields as a record
abbrev pub record_of : RecordAt → Record
record_of r = record { stamp = r.stamp; hart = r.hart; body = body_of r.body }
