-- Laws of what was taken and told of a hart. All of it is this project's own.
use Rattle.std.specs.Prelude.{◌≡◌, ◌≢◌, ◌≤◌, ℕ, false, List, [], ◌++◌, length, IsTrue}
use mathlib.Core.List.{IsPrefix}
use Rattle.dt_record.specs.declared.limits.TheConstants.{RECORD_LIMIT}
use Rattle.dt_record.specs.declared.records.Record.{Record}
use Rattle.dt_record.specs.declared.writes.Note.{Note}
use Rattle.dt_record.specs.Keys.{records_of}
use Rattle.dt_record.specs.ProbeFile.{AreRecords, no_stamps}
use Rattle.dt_core.specs.Sound.{IsAnnounced}
use Rattle.dt_intake.specs.Fronts.{usable_front, IsLongestUsable}
use Rattle.dt_intake.specs.Intakes.{IntakeView, new_intake, with_record, news_of, after_telling}
use Rattle.dt_intake.specs.Told.{own_notes, IsTold}

-- the usable records are the longest front in which each may come next
abbrev pub UsableFrontIsLongest : Type 0
UsableFrontIsLongest = (hart : ℕ) (taken : List Record) → IsLongestUsable hart taken (usable_front hart taken)

-- the usable records stay usable as more are taken
abbrev pub UsableFrontGrows : Type 0
UsableFrontGrows = (hart : ℕ) (taken more : List Record) → IsPrefix (usable_front hart taken) (usable_front hart (taken ++ more))

-- where what was taken of a hart is a front of its records in a file, all of it is usable
abbrev pub FileRecordsAreUsable : Type 0
FileRecordsAreUsable = (harts hart : ℕ) (file taken : List Record) → AreRecords harts no_stamps file → length file ≤ RECORD_LIMIT
    → IsPrefix taken (records_of hart file) → usable_front hart taken ≡ taken

-- before anything is taken, no notes tell it
abbrev pub NothingIsTold : Type 0
NothingIsTold = (hart : ℕ) → IsTold (new_intake hart) []

-- notes tell as much after one more record is taken
abbrev pub TakingKeepsTold : Type 0
TakingKeepsTold = (v : IntakeView) (r : Record) (notes : List Note) → v.ended ≡ false → IsTold v notes → IsTold (with_record v r) notes

-- and whatever room there is
abbrev pub RoomKeepsTold : Type 0
RoomKeepsTold = (v : IntakeView) (room : ℕ) (notes : List Note) → IsTold v notes → IsTold (record v { room = room }) notes

-- with the news, they tell all that is usable
abbrev pub TellingGoesOn : Type 0
TellingGoesOn = (v : IntakeView) (notes : List Note) → IsTold v notes → IsTold (after_telling v) (notes ++ news_of v)

-- the notes of the hart alone decide
abbrev pub OwnNotesDecide : Type 0
OwnNotesDecide = (v : IntakeView) (notes others : List Note) → own_notes v.hart notes ≡ own_notes v.hart others
    → IsTold v notes → IsTold v others

-- the news of one hart has no note of another
abbrev pub NewsIsOfOneHart : Type 0
NewsIsOfOneHart = (v : IntakeView) (hart : ℕ) → hart ≢ v.hart → own_notes hart (news_of v) ≡ []

-- Where what was taken of a hart is a front of its records in a file, and all of them once the feed has ended, notes that tell it
-- announce the hart.
abbrev pub ToldIsAnnounced : Type 0
ToldIsAnnounced = (harts : ℕ) (file : List Record) (v : IntakeView) (notes : List Note)
    → AreRecords harts no_stamps file → length file ≤ RECORD_LIMIT
    → IsPrefix v.taken (records_of v.hart file) → (IsTrue v.ended → v.taken ≡ records_of v.hart file)
    → IsTold v notes → IsAnnounced v.hart (records_of v.hart file) v.taken notes
