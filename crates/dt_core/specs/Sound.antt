-- What holds of the lists of a run, whatever the order of its steps. All of it is this project's own.
use Rattle.std.specs.Prelude.{◌≡◌, ℕ, Bool, List, ◌∷◌, ◌++◌, IsTrue}
use mathlib.Core.List.{IsPrefix}
use Rattle.dt_record.specs.declared.records.Record.{Record}
use Rattle.dt_record.specs.declared.writes.Note.{Note}
use Rattle.dt_record.specs.declared.writes.Write.{Write}
use Rattle.dt_record.specs.declared.writes.Note.TheVariants.{Mark, End}
use Rattle.dt_record.specs.Keys.{records_of}
use Rattle.dt_record.specs.Writes.{no_records, writes_after}
use Rattle.dt_core.specs.Notes.{announced, hart_writes, writes_below}

-- the lists of a run: the records of a file that were fed and whether the end of all harts was fed,
-- what each hart has taken and what waits in its queue, and the history of notes
pub record Lists : Type 0 where
  pub fed : List Record
  pub is_ended : Bool
  pub taken : ℕ → List Record
  pub queue : ℕ → List Record
  pub history : List Note

-- what was fed is a front of the file, and the end is fed after all of it
pub record IsFed (file : List Record) (l : Lists) : Type 0 where
  pub front : IsPrefix l.fed file
  pub whole : IsTrue l.is_ended → l.fed ≡ file

-- the writes of one hart's records, in their order
abbrev pub writes_by : List Record → List Write
writes_by records = writes_after no_records records

-- what a history says of one hart, of which the file has some records and of which some were taken
pub record IsAnnounced (hart : ℕ) (records taken : List Record) (history : List Note) : Type 0 where
  -- its announced writes are a front of the writes of its taken records, in order
  pub wrote : IsPrefix (hart_writes hart (announced history)) (writes_by taken)
  -- before a Mark of it stand all its writes in the file with a stamp below the Mark's
  pub marks : (before after : List Note) (stamp : ℕ) → history ≡ before ++ Mark hart stamp ∷ after
      → writes_below stamp (hart_writes hart (announced before)) ≡ writes_below stamp (writes_by records)
  -- before an End of it stand all its writes in the file
  pub ends : (before after : List Note) → history ≡ before ++ End hart ∷ after
      → hart_writes hart (announced before) ≡ writes_by records

pub record IsSound (file : List Record) (l : Lists) : Type 0 where
  pub fed : IsFed file l
  -- of a hart's records that were fed, the first ones are taken and all others wait in its queue
  pub kept : (hart : ℕ) → l.taken hart ++ l.queue hart ≡ records_of hart l.fed
  pub harts : (hart : ℕ) → IsAnnounced hart (records_of hart file) (l.taken hart) l.history
