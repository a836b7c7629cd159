use Rattle.std.specs.Prelude.{ℕ, ◌≡◌, ◌==◌, List, filter, IsTrue}
use Rattle.dt_record.specs.declared.records.Record.{Record}
use Rattle.dt_record.specs.Keys.{records_of}
use Rattle.dt_record.specs.Writes.{writes_of}
use Rattle.dt_versions.specs.History.{history, are_in_order, IsKept}
use Rattle.dt_writes.specs.FileRecords.{AreFileRecords}
use Rattle.dt_writes.specs.OwnWrites.{own_writes_from}

-- Laws of the writes of a file (this project's own).

-- a hart's writes among all writes are those of its records, in the order of its records
abbrev pub OwnWritesAreOfRecords : Type 0
OwnWritesAreOfRecords = (records : List Record) (hart : ℕ) → AreFileRecords records
    → filter (λ w. w.key.hart == hart) (writes_of records) ≡ own_writes_from 0 (records_of hart records)

-- each write's key is above those of all writes before it, whatever the records are
abbrev pub WritesStandInOrder : Type 0
WritesStandInOrder = (records : List Record) → IsTrue (are_in_order (writes_of records))

-- memory can hold the writes of a file over any image
abbrev pub FileHistoryIsKept : Type 0
FileHistoryIsKept = (image : List ℕ) (records : List Record) → AreFileRecords records → IsKept (history image (writes_of records))
