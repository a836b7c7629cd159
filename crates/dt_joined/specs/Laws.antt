-- What joined lists come to: laws. All of it is this project's own.
use Rattle.std.specs.Prelude.{◌≡◌, ◌≤◌, ℕ, Bool, Option, List, [], length, map, All}
use Rattle.std.specs.List.{range_with_len}
use mathlib.Core.List.{IsPrefix}
use Rattle.dt_record.specs.declared.keys.Key.{Key}
use Rattle.dt_record.specs.declared.limits.TheConstants.{RECORD_LIMIT}
use Rattle.dt_record.specs.declared.records.Record.{Record}
use Rattle.dt_record.specs.declared.writes.Note.{Note}
use Rattle.dt_record.specs.Keys.{records_of}
use Rattle.dt_record.specs.ProbeFile.{AreRecords, no_stamps}
use Rattle.dt_record.specs.Writes.{writes_of}
use Rattle.dt_versions.specs.History.{history}
use Rattle.dt_writes.specs.FileRecords.{AreFileRecords}
use Rattle.dt_core.specs.Sound.{IsSound}
use Rattle.dt_intake.specs.Intakes.{IntakeView}
use Rattle.dt_intake.specs.Told.{own_notes, IsTold}
use Rattle.dt_settled.specs.AllWrites.{AreAllWrites}
use Rattle.dt_shared.specs.declared.entries.Entry.{Entry}
use Rattle.dt_shared.specs.Entries.{notes_in}
use Rattle.dt_shared.specs.Passes.{PassState}
use Rattle.dt_tallies.specs.Counting.{counts_of}
use Rattle.dt_tallies.specs.Naming.{named_notes}
use Rattle.dt_verdict.specs.declared.answers.Checked.{Checked}
use Rattle.dt_verdict.specs.declared.tallies.Noted.{Noted}
use Rattle.dt_verdict.specs.declared.verdicts.Outcome.{Outcome}
use Rattle.dt_verdict.specs.Verdict.{verdict_of, IsVerdict}
use Rattle.dt_pass.specs.Checked.{IsChecked, limit_of}
use Rattle.dt_pass.specs.Running.{AreRunsOf, IsRunOf}
use Rattle.dt_lane.specs.declared.ends.HartEnd.{HartEnd}
use Rattle.dt_joined.specs.Ends.{AreEndsOf, AreFew, AreJoinedHarts}
use Rattle.dt_joined.specs.Joined.{AreAccounted, IsToldByOne, AreJoined, joined_lists, IsJudgedHart}

-- where the passes account for the history and one of them tells a hart, the history tells it
abbrev pub OneTellerIsEnough : Type 0
OneTellerIsEnough = (passes : List PassState) (closed : List Entry) (v : IntakeView)
    → AreAccounted passes closed → IsToldByOne passes v → IsTold v (notes_in closed)

-- a hart of which no pass has a note is not in the history
abbrev pub UntoldIsNotThere : Type 0
UntoldIsNotThere = (passes : List PassState) (closed : List Entry) (hart : ℕ)
    → AreAccounted passes closed → All (λ p. own_notes hart p.own ≡ []) passes → own_notes hart (notes_in closed) ≡ []

-- the lists of a joined run are sound
abbrev pub JoinedListsAreSound : Type 0
JoinedListsAreSound = (harts : ℕ) (file : List Record) (history : List Note) (views : ℕ → IntakeView)
    → AreRecords harts no_stamps file → length file ≤ RECORD_LIMIT → AreJoined harts file history views
    → IsSound file (joined_lists file history)

-- so by each front of their history the writes of the file may be all writes
abbrev pub JoinedWritesMayBeAll : Type 0
JoinedWritesMayBeAll = (image : List ℕ) (harts : ℕ) (file : List Record) (front history : List Note) (views : ℕ → IntakeView)
    → AreRecords harts no_stamps file → AreFileRecords file → length file ≤ RECORD_LIMIT → AreJoined harts file history views
    → IsPrefix front history → AreAllWrites image harts front (writes_of file)

-- Where the passes account for the history, and each has seen a front of it, what came of the joined harts is their judgement over the
-- file.
abbrev pub JoinedHartsAreJudged : Type 0
JoinedHartsAreJudged = (image : List ℕ) (wide : Bool) (harts : ℕ) (file : List Record) (passes : List PassState) (closed : List Entry)
    (ends : List HartEnd) → AreRecords harts no_stamps file → AreFileRecords file → length file ≤ RECORD_LIMIT
    → AreAccounted passes closed → All (λ p. IsPrefix p.seen closed) passes → AreJoinedHarts image wide harts file passes ends
    → AreEndsOf image wide file ends

-- no joined hart has more records than a file may have
abbrev pub JoinedHartsAreFew : Type 0
JoinedHartsAreFew = (image : List ℕ) (wide : Bool) (harts : ℕ) (file : List Record) (passes : List PassState) (ends : List HartEnd)
    → length file ≤ RECORD_LIMIT → AreJoinedHarts image wide harts file passes ends → AreFew ends

-- what came of a hart is its run to the end, as one thread judges it
abbrev pub JudgedHartsHaveRuns : Type 0
JudgedHartsHaveRuns = (image : List ℕ) (wide : Bool) (file : List Record) (hart : ℕ) (outcome : Outcome) (notes : List Noted)
    → AreFileRecords file → IsJudgedHart image wide file hart outcome notes
    → IsRunOf (history image (writes_of file)) wide hart file outcome notes

-- a hart's own records are counted as those of the file
abbrev pub OwnRecordsAreCounted : Type 0
OwnRecordsAreCounted = (limit : Option Key) (file : List Record) (hart : ℕ)
    → counts_of limit (records_of hart (records_of hart file)) ≡ counts_of limit (records_of hart file)

-- a verdict, counts and notes of all harts are the check of the file
pub record IsConcluded (harts : ℕ) (file : List Record) (outcomes : List Outcome) (notes : List Noted) (checked : Checked) : Type 0 where
  pub harts_are : checked.harts ≡ harts
  pub verdict : checked.verdict ≡ verdict_of outcomes
  pub least : IsVerdict outcomes checked.verdict
  pub counts : checked.tallies.harts ≡ map (λ hart. counts_of (limit_of checked.verdict) (records_of hart file)) (range_with_len 0 harts)
  pub notes_are : checked.tallies.notes ≡ named_notes (limit_of checked.verdict) notes

abbrev pub ConcludedIsChecked : Type 0
ConcludedIsChecked = (image : List ℕ) (wide : Bool) (harts : ℕ) (file : List Record)
    (outcomes : List Outcome) (notes : List Noted) (checked : Checked)
    → AreRunsOf (history image (writes_of file)) wide harts file outcomes notes → IsConcluded harts file outcomes notes checked
    → IsChecked image wide harts file checked
