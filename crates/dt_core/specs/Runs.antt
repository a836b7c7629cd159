-- What holds after any list of steps of the core machine. All of it is this project's own.
use Rattle.std.specs.Prelude.{◌≡◌, ℕ, ◌≤◌, Option, Some, None, List, [], ◌∷◌, ◌++◌, length, take}
use Rattle.std.specs.List.{slice_get}
use mathlib.Core.List.{IsPrefix}
use Rattle.dt_record.specs.declared.limits.TheConstants.{HART_LIMIT, RECORD_LIMIT}
use Rattle.dt_record.specs.declared.keys.Key.{Key}
use Rattle.dt_record.specs.declared.records.Record.{Record}
use Rattle.dt_record.specs.declared.writes.Note.{Note}
use Rattle.dt_record.specs.declared.writes.Note.TheVariants.{Failure}
use Rattle.dt_record.specs.Keys.{records_of}
use Rattle.dt_record.specs.ProbeFile.{AreRecords, no_stamps}
use Rattle.dt_record.specs.Writes.{writes_of}
use Rattle.dt_core.specs.declared.steps.CoreStep.{CoreStep}
use Rattle.dt_core.specs.Judgements.{Meaning, AreAnswered, failure_by}
use Rattle.dt_core.specs.Laws.{HoldsBelow}
use Rattle.dt_core.specs.Machine.{HartState, CoreState, run_steps, opening_state}
use Rattle.dt_record.specs.Marks.{least_mark}
use Rattle.dt_core.specs.Notes.{notes_appended}
use Rattle.dt_core.specs.Sound.{Lists, IsSound}

abbrev pub taken_in : {J : Type 0} → Option (HartState J) → List Record
taken_in None = []
taken_in (Some s) = s.taken

abbrev pub queue_in : {J : Type 0} → Option (HartState J) → List Record
queue_in None = []
queue_in (Some s) = s.queue

-- the lists of a state
abbrev pub lists_of : {J : Type 0} → CoreState J → Lists
lists_of c = record {
  fed = take c.fed c.file;
  is_ended = c.is_ended;
  taken = λ hart. taken_in (slice_get c.harts hart);
  queue = λ hart. queue_in (slice_get c.harts hart);
  history = notes_appended c.history;
}

pub record HoldsAfter {J : Type 0} (m : Meaning J) (harts : ℕ) (file : List Record) (c : CoreState J) : Type 0 where
  -- the lists are sound
  pub sound : IsSound file (lists_of c)
  -- each front of the history holds exactly the file's writes below its least mark
  pub exact : (front : List Note) → IsPrefix front (notes_appended c.history) → HoldsBelow (least_mark harts front) front file
  -- every outcome is the judgement over all writes of the file
  pub judged : (hart : ℕ) (s : HartState J) → slice_get c.harts hart ≡ Some s
      → AreAnswered m (writes_of file) (m.opening hart) (records_of hart file) s.outcomes s.state
  -- every Failure note is the failure of its hart over all writes of the file
  pub failures : (before after : List Note) (key : Key) → notes_appended c.history ≡ before ++ Failure key ∷ after
      → failure_by m (writes_of file) key.hart (records_of key.hart file) ≡ Some key

-- after any list of steps from the start
abbrev pub EveryRunHolds : {J : Type 0} → Meaning J → Type 0
EveryRunHolds {J} m = (harts workers : ℕ) (file : List Record) (steps : List CoreStep) → AreRecords harts no_stamps file
    → HoldsAfter m harts file (run_steps m (opening_state m harts workers file) steps)

-- some list of steps leads from the start of some file to the state
pub record IsReached {J : Type 0} (m : Meaning J) (c : CoreState J) : Type 0 where
  pub harts : ℕ
  pub workers : ℕ
  pub file : List Record
  pub steps : List CoreStep
  pub few_harts : harts ≤ HART_LIMIT
  pub some_worker : 1 ≤ workers
  pub few_workers : workers ≤ 8
  pub each : AreRecords harts no_stamps file
  pub few_records : length file ≤ RECORD_LIMIT
  pub is : c ≡ run_steps m (opening_state m harts workers file) steps
