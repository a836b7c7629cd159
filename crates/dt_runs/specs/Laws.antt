use Rattle.std.specs.Prelude.{ℕ, ◌≡◌, Bool, Option, None, List, [], ◌++◌, length}
use Rattle.dt_record.specs.declared.records.Record.{Record}
use Rattle.dt_record.specs.declared.writes.Write.{Write}
use Rattle.dt_record.specs.Keys.{records_of}
use Rattle.dt_record.specs.Writes.{writes_of}
use Rattle.dt_writes.specs.FileRecords.{AreFileRecords}
use Rattle.dt_rules.specs.declared.misfits.Misfit.{Misfit}
use Rattle.dt_rules.specs.declared.misfits.Passed.{Passed}
use Rattle.dt_judge.specs.Runs.{RunsTo}
use Rattle.dt_runs.specs.Noting.{failure_after, notes_from}
use Rattle.dt_runs.specs.RunView.{RunView}
use Rattle.dt_runs.specs.Runs.{AreOwn, Runs}

-- Laws of a hart's run (this project's own).

-- the records of a hart of a file are all its own, among all writes of the file
abbrev pub FileRecordsAreOwn : Type 0
FileRecordsAreOwn = (records : List Record) (hart : ℕ) → AreFileRecords records → AreOwn (writes_of records) hart (records_of hart records)

-- What came of all records of a hart: how far they are allowed, the failure of the next one, if any, and what a report
-- says of those that are.
pub record ComesTo (v : RunView) (image : List ℕ) (writes : List Write) (wide : Bool) (records : List Record) : Type 0 where
  pub allowed : List Passed
  pub refused : Option Misfit
  pub runs : RunsTo image writes wide v.hart.arch.hart records allowed refused
  pub failure : v.failure ≡ failure_after records (length allowed) refused
  pub notes : v.notes ≡ notes_from 0 records allowed

-- A run that has failed is that of all records of its hart, whatever comes after; so is one that has not, where no more come.
abbrev pub RunsComeToAnEnd : Type 0
RunsComeToAnEnd = (v : RunView) (image : List ℕ) (writes : List Write) (wide : Bool) (records more : List Record)
    → Runs v image writes wide records → (v.failure ≡ None → more ≡ []) → ComesTo v image writes wide (records ++ more)
