use Rattle.std.specs.Prelude.{ℕ, ◌≤◌, List, length, filter}
use Rattle.dt_record.specs.declared.limits.TheConstants.{HART_LIMIT, RECORD_LIMIT, WRITE_LIMIT}
use Rattle.dt_record.specs.declared.records.Record.{Record}
use Rattle.dt_record.specs.ProbeFile.{AreRecords, no_stamps}
use Rattle.dt_record.specs.Writes.{writes_memory}

-- What a probe file promises of its records (this project's own): each is lawful and of one of the
-- file's harts, no hart's stamps fall, and they are within the limits.
pub record AreFileRecords (records : List Record) : Type 0 where
  pub harts : ℕ
  pub few_harts : harts ≤ HART_LIMIT
  pub each : AreRecords harts no_stamps records
  pub few_records : length records ≤ RECORD_LIMIT
  pub few_writes : length (filter writes_memory records) ≤ WRITE_LIMIT
