-- What a list of notes says of one hart, where notes of other harts may stand between. All of it is
-- this project's own.
use Rattle.std.specs.Prelude.{◌≡◌, ◌≤◌, ◌==◌, ℕ, Bool, false, List, [], ◌∷◌, ◌++◌, length, take, filter, IsTrue}
use Rattle.dt_record.specs.declared.records.Record.{Record}
use Rattle.dt_record.specs.declared.writes.Note.{Note}
use Rattle.dt_record.specs.declared.writes.Note.TheVariants.{Wrote, Mark, End}
use Rattle.dt_record.specs.declared.writes.Write.{Write}
use Rattle.dt_writes.specs.OwnWrites.{own_writes_from}
use Rattle.dt_core.specs.Notes.{announced, hart_writes}
use Rattle.dt_intake.specs.Fronts.{usable_front}
use Rattle.dt_intake.specs.Intakes.{IntakeView, usable_of}

-- whether a note is of this hart: a write, a Mark or an End of it
abbrev pub is_of : ℕ → Note → Bool
is_of hart (Wrote w) = w.key.hart == hart
is_of hart (Mark h stamp) = h == hart
is_of hart (End h) = h == hart
is_of hart _ = false

-- the notes of one hart
abbrev pub own_notes : ℕ → List Note → List Note
own_notes hart notes = filter (is_of hart) notes

-- the records that were told
abbrev pub told_of : IntakeView → List Record
told_of v = take v.told (usable_of v)

-- one of these records has this stamp, and these are the writes of the records up to it
pub record IsMarked (records : List Record) (stamp : ℕ) (writes : List Write) : Type 0 where
  pub first : List Record
  pub last : Record
  pub more : List Record
  pub split : records ≡ first ++ last ∷ more
  pub its_stamp : last.stamp ≡ stamp
  pub its_writes : writes ≡ own_writes_from 0 (first ++ last ∷ [])

-- the feed has ended, all that was taken is usable, and these are its writes
pub record IsEnded (hart : ℕ) (taken : List Record) (ended : Bool) (writes : List Write) : Type 0 where
  pub ended_is : IsTrue ended
  pub usable : usable_front hart taken ≡ taken
  pub its_writes : writes ≡ own_writes_from 0 taken

-- an End of the hart stands among the notes
pub record HasEnd (hart : ℕ) (notes : List Note) : Type 0 where
  pub before : List Note
  pub after : List Note
  pub split : notes ≡ before ++ End hart ∷ after

-- What notes tell of a hart.
pub record IsTold (v : IntakeView) (notes : List Note) : Type 0 where
  -- no more is told than is usable
  pub within : v.told ≤ length (usable_of v)
  -- the announced writes of the hart are those of its told records, in order
  pub wrote : hart_writes v.hart (announced notes) ≡ own_writes_from 0 (told_of v)
  -- a Mark of the hart has the stamp of a told record, and before it stand the writes up to this record
  pub marks : (before after : List Note) (stamp : ℕ) → notes ≡ before ++ Mark v.hart stamp ∷ after
      → IsMarked (told_of v) stamp (hart_writes v.hart (announced before))
  -- an End of the hart stands there only where it is over, and before it stand all its writes
  pub ends : (before after : List Note) → notes ≡ before ++ End v.hart ∷ after
      → IsEnded v.hart v.taken v.ended (hart_writes v.hart (announced before))
  -- where its End was told, an End of the hart stands there
  pub end_stands : IsTrue v.end_told → HasEnd v.hart notes
