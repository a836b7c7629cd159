-- What is kept of a file for a replay. All of it is this project's own.
use Rattle.std.specs.Prelude.{ℕ, ◌≡◌, Bool, Some, List, length, slice_get}
use Rattle.dt_record.specs.declared.records.Record.{Record}
use Rattle.dt_record.specs.Keys.{records_of}
use Rattle.dt_record.specs.Writes.{writes_of}
use Rattle.dt_reading.specs.Reading.{AreStreamed}
use Rattle.dt_hart.specs.HartView.{HartView}
use Rattle.dt_runs.specs.Runs.{StandsBehind}
use Rattle.dt_kept.specs.declared.states.HartEvents.{HartEvents}
use Rattle.dt_kept.specs.declared.states.Kept.{Kept}
use Rattle.dt_kept.specs.declared.states.Snapshot.{Snapshot}
use Rattle.dt_kept.specs.Cutting.{records_before, records_from}

-- The hart with this number, of a file with these records, is in its state at a cut: its records below the cut are
-- allowed, over the image and all writes of the file, and it stands for them.
pub record IsStateAt (image : List ℕ) (wide : Bool) (records : List Record) (cut hart : ℕ) (h : HartView) : Type 0 where
  pub number : h.arch.hart ≡ hart
  pub stands : StandsBehind h image (writes_of records) wide (records_before cut (records_of hart records))

-- the harts of a file with so many, hart 0 first, are in their states at a cut
pub record AreStatesAt (image : List ℕ) (wide : Bool) (harts : ℕ) (records : List Record) (cut : ℕ) (states : List HartView) : Type 0 where
  pub count : length states ≡ harts
  pub each : (hart : ℕ) (h : HartView) → slice_get states hart ≡ Some h → IsStateAt image wide records cut hart h

-- These are the records of a hart from a cut on, where these are all its records: first is the number of the first of them,
-- or how many records the hart has where there is none.
pub record AreEventsFrom (cut : ℕ) (own : List Record) (kept : HartEvents) : Type 0 where
  pub first : kept.first ≡ length (records_before cut own)
  pub events : kept.events.items ≡ records_from cut own

-- the same of all harts of a file with so many, hart 0 first
pub record AreAllEventsFrom (harts cut : ℕ) (records : List Record) (kept : List HartEvents) : Type 0 where
  pub count : length kept ≡ harts
  pub each : (hart : ℕ) (k : HartEvents) → slice_get kept hart ≡ Some k → AreEventsFrom cut (records_of hart records) k

-- these are the records of the harts of some file from some cut on
pub record IsOfAFile (kept : List HartEvents) : Type 0 where
  pub harts : ℕ
  pub cut : ℕ
  pub records : List Record
  pub streamed : AreStreamed harts records
  pub events : AreAllEventsFrom harts cut records kept

-- The pair that is kept of a file at a cut: the harts' states there, their records from it on, and all writes of the file.
pub record IsPairAt (image : List ℕ) (wide : Bool) (harts : ℕ) (records : List Record) (cut : ℕ) (from : Snapshot) (kept : Kept) : Type 0 where
  pub cut_is : from.cut ≡ cut
  pub states : AreStatesAt image wide harts records cut from.harts.items
  pub events : AreAllEventsFrom harts cut records kept.harts.items
  pub writes : kept.writes.items ≡ writes_of records
