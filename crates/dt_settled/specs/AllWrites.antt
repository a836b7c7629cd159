-- What notes say of the list of all writes, and the laws of it. All of it is this project's own.
use Rattle.std.specs.Prelude.{◌≡◌, ◌<◌, ◌≤◌, ◌==◌, ◌&&◌, not, nat_lt, ℕ, Some, All, List, ◌∷◌, ◌++◌, length, IsTrue}
use Rattle.std.specs.List.{list_all}
use mathlib.Core.List.{IsPrefix}
use Rattle.dt_record.specs.declared.limits.TheConstants.{WRITE_LIMIT}
use Rattle.dt_record.specs.declared.records.Record.{Record}
use Rattle.dt_record.specs.declared.writes.Write.{Write}
use Rattle.dt_record.specs.declared.writes.Note.{Note}
use Rattle.dt_record.specs.declared.writes.Note.TheVariants.{Mark, End}
use Rattle.dt_record.specs.Lawful.{IsLawful}
use Rattle.dt_record.specs.Marks.{least_mark}
use Rattle.dt_record.specs.ProbeFile.{AreRecords, no_stamps}
use Rattle.dt_record.specs.Writes.{write_of_record, by_key, writes_of}
use Rattle.dt_versions.specs.History.{history, IsKept}
use Rattle.dt_writes.specs.Apart.{are_apart}
use Rattle.dt_writes.specs.FileRecords.{AreFileRecords}
use Rattle.dt_core.specs.Notes.{announced}
use Rattle.dt_core.specs.Sound.{Lists, IsSound}
use Rattle.dt_settled.specs.Settling.{TellBelow, ArePromised}

-- This may be the list of all writes, by what these notes and each front of them tell: memory can hold it, no two announced writes
-- have one key, and below its least mark each front announces exactly the writes of the list.
pub record AreAllWrites (image : List ℕ) (harts : ℕ) (notes : List Note) (all : List Write) : Type 0 where
  pub kept : IsKept (history image all)
  pub apart : IsTrue (are_apart (announced notes))
  pub exact : (front : List Note) → IsPrefix front notes → TellBelow (least_mark harts front) front all

-- it may be by each front of the notes too
abbrev pub FrontsTellAllWrites : Type 0
FrontsTellAllWrites = (image : List ℕ) (harts : ℕ) (front notes : List Note) (all : List Write)
    → IsPrefix front notes → AreAllWrites image harts notes all → AreAllWrites image harts front all

-- and each front with its least mark is as a look is promised
abbrev pub AllWritesArePromised : Type 0
AllWritesArePromised = (image : List ℕ) (harts : ℕ) (front notes : List Note) (all : List Write)
    → IsPrefix front notes → AreAllWrites image harts notes all → ArePromised image front (least_mark harts front) all

-- by the history of sound lists, the writes of the file may be all writes
abbrev pub FileWritesMayBeAll : Type 0
FileWritesMayBeAll = (image : List ℕ) (harts : ℕ) (file : List Record) (l : Lists)
    → AreRecords harts no_stamps file → AreFileRecords file → IsSound file l → AreAllWrites image harts l.history (writes_of file)

-- a lawful record of a hart below `harts` makes the write
pub record IsMade (harts : ℕ) (w : Write) : Type 0 where
  pub maker : Record
  pub seq : ℕ
  pub lawful : IsLawful maker
  pub hart : maker.hart < harts
  pub made : write_of_record seq maker ≡ Some w

-- no write of a hart has a cycle below this one
abbrev pub NoneEarly : ℕ → ℕ → List Write → Type 0
NoneEarly hart stamp writes = IsTrue (list_all (λ w. not ((w.key.hart == hart) && nat_lt w.key.stamp stamp)) writes)

-- What a history is, whoever appended to it, where each hart tells its writes in the order of their cycles.
pub record AreOrderly (harts : ℕ) (notes : List Note) : Type 0 where
  -- no write of a hart follows a Mark of it with a greater stamp
  pub marks : (before after : List Note) (hart stamp : ℕ) → notes ≡ before ++ Mark hart stamp ∷ after
      → NoneEarly hart stamp (announced after)
  -- none follows its End
  pub ends : (before after : List Note) (hart : ℕ) → notes ≡ before ++ End hart ∷ after
      → IsTrue (list_all (λ w. not (w.key.hart == hart)) (announced after))
  pub made : All (IsMade harts) (announced notes)
  pub apart : IsTrue (are_apart (announced notes))
  pub few : length (announced notes) ≤ WRITE_LIMIT

-- by an orderly history, the writes that it announces may be all writes
abbrev pub OrderlyWritesMayBeAll : Type 0
OrderlyWritesMayBeAll = (image : List ℕ) (harts : ℕ) (notes : List Note)
    → AreOrderly harts notes → AreAllWrites image harts notes (by_key (announced notes))
