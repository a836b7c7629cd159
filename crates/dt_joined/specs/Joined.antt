-- What joined workers give: of each hart what was taken and told, and the closed history. All of it is this project's own.
use Rattle.std.specs.Prelude.{◌≡◌, ◌≢◌, ◌<◌, ◌≤◌, ℕ, Bool, true, None, List, [], Contains, All, Any}
use mathlib.Core.List.{IsPrefix}
use Rattle.dt_record.specs.declared.records.Record.{Record}
use Rattle.dt_record.specs.declared.writes.Note.{Note}
use Rattle.dt_record.specs.Keys.{records_of}
use Rattle.dt_record.specs.Writes.{writes_of}
use Rattle.dt_intake.specs.Intakes.{IntakeView}
use Rattle.dt_intake.specs.Told.{own_notes, IsTold}
use Rattle.dt_runs.specs.RunView.{RunView, outcome_in}
use Rattle.dt_runs.specs.Runs.{Runs}
use Rattle.dt_shared.specs.declared.entries.Entry.{Entry}
use Rattle.dt_shared.specs.Entries.{notes_of}
use Rattle.dt_shared.specs.Passes.{PassState}
use Rattle.dt_core.specs.Sound.{Lists}
use Rattle.dt_verdict.specs.declared.tallies.Noted.{Noted}
use Rattle.dt_verdict.specs.declared.verdicts.Outcome.{Outcome}

-- the closed history, by the passes that were given back: each entry is one of theirs, and each has its own notes there
pub record AreAccounted (passes : List PassState) (closed : List Entry) : Type 0 where
  pub own : All (λ p. p.own ≡ notes_of p.number closed) passes
  pub numbers : All (λ e. Any (λ p. p.number ≡ e.pass) passes) closed

-- one of the passes tells a hart, and no other pass has a note of it
pub record IsToldByOne (passes : List PassState) (v : IntakeView) : Type 0 where
  pub teller : PassState
  pub its : Contains passes teller
  pub told : IsTold v teller.own
  pub others : All (λ p. p.number ≢ teller.number → own_notes v.hart p.own ≡ []) passes

-- Of a file with so many harts each hart was taken to its end and told, and no note is of any other hart.
pub record AreJoined (harts : ℕ) (file : List Record) (history : List Note) (views : ℕ → IntakeView) : Type 0 where
  pub its : (hart : ℕ) → hart < harts → (views hart).hart ≡ hart
  pub taken : (hart : ℕ) → hart < harts → (views hart).taken ≡ records_of hart file
  pub told : (hart : ℕ) → hart < harts → IsTold (views hart) history
  pub no_other : (hart : ℕ) → harts ≤ hart → own_notes hart history ≡ []

-- the lists of a run that came to its end
abbrev pub joined_lists : List Record → List Note → Lists
joined_lists file history = record {
  fed = file;
  is_ended = true;
  taken = λ hart. records_of hart file;
  queue = λ hart. [];
  history = history;
}

-- What came of one hart of a file: its run over the records that were judged, which are all of them or end with the failure.
pub record IsJudgedHart (image : List ℕ) (wide : Bool) (file : List Record) (hart : ℕ)
    (outcome : Outcome) (notes : List Noted) : Type 0 where
  pub run : RunView
  pub judged : List Record
  pub number : run.hart.arch.hart ≡ hart
  pub front : IsPrefix judged (records_of hart file)
  pub runs : Runs run image (writes_of file) wide judged
  pub whole : run.failure ≡ None → judged ≡ records_of hart file
  pub outcome_is : outcome ≡ outcome_in run
  pub notes_are : notes ≡ run.notes
