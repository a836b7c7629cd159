use Rattle.std.specs.Prelude.{ℕ, ◌≡◌, Bool, Option, None, Some, List, length, map, filter, All}
use Rattle.std.specs.List.{flat_map, range_with_len}
use Rattle.dt_record.specs.declared.keys.Key.{Key}
use Rattle.dt_record.specs.declared.records.Record.{Record}
use Rattle.dt_record.specs.declared.streams.Next.{Next}
use Rattle.dt_record.specs.Keys.{records_of}
use Rattle.dt_record.specs.Streams.{Progress}
use Rattle.dt_record.specs.Writes.{writes_of}
use Rattle.dt_rules.specs.declared.misfits.Misfit.{Misfit}
use Rattle.dt_rules.specs.declared.misfits.Passed.{Passed}
use Rattle.dt_judge.specs.Runs.{RunsTo}
use Rattle.dt_verdict.specs.declared.answers.Checked.{Checked}
use Rattle.dt_runs.specs.Noting.{failure_after, notes_from}
use Rattle.dt_verdict.specs.declared.tallies.Noted.{Noted}
use Rattle.dt_verdict.specs.declared.verdicts.Failure.{Failure}
use Rattle.dt_verdict.specs.declared.verdicts.Outcome.{Outcome}
use Rattle.dt_verdict.specs.declared.verdicts.Verdict.{Verdict}
use Rattle.dt_verdict.specs.declared.verdicts.Verdict.TheVariants.{Pass, Fail}
use Rattle.dt_verdict.specs.Verdict.{verdict_of, IsVerdict}
use Rattle.dt_tallies.specs.Counting.{counts_of, is_below}
use Rattle.dt_tallies.specs.Naming.{named_notes}
use Rattle.dt_reading.specs.Reading.{HasCome}

-- What checking the records of a probe file comes to (this project's own).

-- How far the records of one hart are allowed: those that are, each with its letters and sources, and why the next one,
-- if there is one, is not.
pub record AllowedRun : Type 0 where
  pub hart : ℕ
  pub allowed : List Passed
  pub refused : Option Misfit

-- the failure of a hart with these records: its first record that is not allowed, where there is one
abbrev pub failure_of : List Record → AllowedRun → Option Failure
failure_of own run = failure_after own (length run.allowed) run.refused

-- the outcome of a hart of a file with these records
abbrev pub outcome_of : List Record → AllowedRun → Outcome
outcome_of records run = record { hart = run.hart; failure = failure_of (records_of run.hart records) run }

-- the notes of a hart of a file with these records
abbrev pub notes_of : List Record → AllowedRun → List Noted
notes_of records run = notes_from 0 (records_of run.hart records) run.allowed

-- the key below which records are counted and named, where there is one
abbrev pub limit_of : Verdict → Option Key
limit_of Pass = None
limit_of (Fail f) = Some f.key

-- a hart's records among these are allowed as far as the run says
abbrev pub IsRun : (image : List ℕ) (wide : Bool) → List Record → AllowedRun → Type 0
IsRun image wide records run = RunsTo image (writes_of records) wide run.hart (records_of run.hart records) run.allowed run.refused

-- one run for each hart of a file with so many harts and these records, hart 0 first, over the image and all writes of the file
pub record AreRuns (image : List ℕ) (wide : Bool) (harts : ℕ) (records : List Record) (runs : List AllowedRun) : Type 0 where
  pub harts_are : map (λ (run : AllowedRun). run.hart) runs ≡ range_with_len 0 harts
  pub each : All (IsRun image wide records) runs

-- What checking comes to: the verdict over all harts; and of the records below the failing one, or of all, the counts of
-- each hart, and what a report names.
pub record IsChecked (image : List ℕ) (wide : Bool) (harts : ℕ) (records : List Record) (checked : Checked) : Type 0 where
  pub runs : List AllowedRun
  pub are_runs : AreRuns image wide harts records runs
  pub harts_are : checked.harts ≡ harts
  pub verdict : checked.verdict ≡ verdict_of (map (outcome_of records) runs)
  pub least : IsVerdict (map (outcome_of records) runs) checked.verdict
  pub counts : checked.tallies.harts ≡ map (λ hart. counts_of (limit_of checked.verdict) (records_of hart records)) (range_with_len 0 harts)
  pub notes : checked.tallies.notes ≡ named_notes (limit_of checked.verdict) (flat_map (notes_of records) runs)

-- the notes that these have below a limit are those that a file with these runs has
abbrev pub AreNotesBelow : Option Key → List Noted → List Record → List AllowedRun → Type 0
AreNotesBelow limit notes records runs =
    filter (λ n. is_below limit n.key) notes ≡ filter (λ n. is_below limit n.key) (flat_map (notes_of records) runs)

-- this is the verdict over all harts of a file with these runs
pub record IsVerdictOver (records : List Record) (runs : List AllowedRun) (verdict : Verdict) : Type 0 where
  pub is : verdict ≡ verdict_of (map (outcome_of records) runs)
  pub least : IsVerdict (map (outcome_of records) runs) verdict

-- A verdict and notes come to this check: over any image, where the harts' runs have this verdict, and notes that are these
-- below it.
abbrev pub IsConclusion : (harts : ℕ) → List Record → Verdict → List Noted → Checked → Type 0
IsConclusion harts records verdict notes checked = (image : List ℕ) (wide : Bool) (runs : List AllowedRun)
    → AreRuns image wide harts records runs → IsVerdictOver records runs verdict → AreNotesBelow (limit_of verdict) notes records runs
    → IsChecked image wide harts records checked

-- the check of the records that a stream answered, from no answer to its end
pub record IsCheckOf (image : List ℕ) (told : Option (List Next)) (p : Progress) (checked : Checked) : Type 0 where
  pub harts : ℕ
  pub wide : Bool
  pub records : List Record
  pub came : HasCome told p harts wide records
  pub is_checked : IsChecked image wide harts records checked
