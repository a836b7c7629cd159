-- How the harts of a file are judged one after another. No public clause cites these words.
use Rattle.std.specs.Prelude.{ℕ, ◌≡◌, Bool, List, map}
use Rattle.std.specs.List.{flat_map}
use Rattle.dt_record.specs.declared.records.Record.{Record}
use Rattle.dt_record.specs.Writes.{writes_of}
use Rattle.dt_versions.specs.History.{History}
use Rattle.dt_writes.specs.FileRecords.{AreFileRecords}
use Rattle.dt_verdict.specs.declared.tallies.Noted.{Noted}
use Rattle.dt_verdict.specs.declared.verdicts.Outcome.{Outcome}
use Rattle.dt_pass.specs.Checked.{AllowedRun, IsRun, AreRuns, notes_of, outcome_of}

-- what came of all records of a hart
pub record IsRunOf (held : History) (wide : Bool) (hart : ℕ) (records : List Record) (outcome : Outcome) (notes : List Noted) : Type 0 where
  pub run : AllowedRun
  pub hart_is : run.hart ≡ hart
  pub is_run : IsRun held.image wide records run
  pub outcome_is : outcome ≡ outcome_of records run
  pub notes_are : notes ≡ notes_of records run

-- what came of the records of the first harts
pub record AreRunsOf (held : History) (wide : Bool) (harts : ℕ) (records : List Record) (outcomes : List Outcome)
    (notes : List Noted) : Type 0 where
  pub runs : List AllowedRun
  pub are_runs : AreRuns held.image wide harts records runs
  pub outcomes_are : outcomes ≡ map (outcome_of records) runs
  pub notes_are : notes ≡ flat_map (notes_of records) runs

-- memory holds all writes of these records, which are those of a file
pub record AreJudgeable (held : History) (records : List Record) : Type 0 where
  pub writes : held.writes ≡ writes_of records
  pub file : AreFileRecords records
