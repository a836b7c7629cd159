-- How far a stream of probe records was read, between two of its answers (this project's own).
use Rattle.std.specs.Prelude.{ℕ, ◌≡◌, ◌≤◌, ◌+◌, ◌-◌, Bool, cond, Option, None, Some, IfSome, is_some, List, [], ◌++◌, length, filter}
use Rattle.dt_record.specs.declared.limits.TheConstants.{HART_LIMIT, RECORD_LIMIT, WRITE_LIMIT}
use Rattle.dt_record.specs.declared.records.Record.{Record}
use Rattle.dt_record.specs.declared.streams.Next.{Next}
use Rattle.dt_record.specs.ProbeFile.{AreRecords, no_stamps, stamps_after}
use Rattle.dt_record.specs.Streams.{Progress}
use Rattle.dt_record.specs.Writes.{writes_memory}
use Rattle.dt_reading.specs.Reading.{first_answers}

-- the header came, and nothing behind it
pub record IsBehindHeader (harts : ℕ) (wide : Bool) (p : Progress) : Type 0 where
  pub some_hart : 1 ≤ harts
  pub few_harts : harts ≤ HART_LIMIT
  pub harts_are : p.harts ≡ Some harts
  pub wide_is : p.wide ≡ wide
  pub no_stamps : (hart : ℕ) → p.stamps hart ≡ 0
  pub no_events : p.events ≡ 0
  pub no_writes : p.writes ≡ 0
  pub open_still : p.ended ≡ None

-- the answers that came
abbrev pub so_far : Option ℕ → Bool → List Record → List Next
so_far None wide records = []
so_far (Some harts) wide records = first_answers harts wide records

-- what a stream has told behind its header
pub record IsOpened (h harts : ℕ) (wide : Bool) (records : List Record) (p : Progress) : Type 0 where
  pub harts_are : h ≡ harts
  pub wide_is : p.wide ≡ wide
  pub some_hart : 1 ≤ h
  pub few_harts : h ≤ HART_LIMIT
  pub each : AreRecords h no_stamps records
  pub stamps : (hart : ℕ) → p.stamps hart ≡ stamps_after no_stamps records hart
  pub events : length records ≡ p.events
  pub few_events : p.events ≤ RECORD_LIMIT
  pub writes : length (filter writes_memory records) ≡ p.writes
  pub few_writes : p.writes ≤ WRITE_LIMIT

-- these answers came of some, and these are left
pub record HasGiven (answers : List Next) (left : Option (List Next)) (given : List Next) : Type 0 where
  pub rest : List Next
  pub left_is : left ≡ Some rest
  pub answers_are : answers ≡ given ++ rest

-- Of what a stream tells, these records came, and these answers are left. Before the header no record came.
pub record IsUnderway (told left : Option (List Next)) (harts : ℕ) (wide : Bool) (records : List Record) (p : Progress) : Type 0 where
  pub came : IfSome told (λ answers. HasGiven answers left (so_far p.harts wide records))
  pub open_still : p.ended ≡ None
  pub unopened : p.harts ≡ None → records ≡ []
  pub opened : (h : ℕ) → p.harts ≡ Some h → IsOpened h harts wide records p

-- these records are the first of the stream, where it tells
pub record HaveBegun (told : Option (List Next)) (harts : ℕ) (wide : Bool) (records : List Record) : Type 0 where
  pub answers : IfSome told (λ answers. (more : List Next) × (answers ≡ first_answers harts wide records ++ more))
  pub each : AreRecords harts no_stamps records

-- how many more answers may come
abbrev pub remaining : Progress → ℕ
remaining p = cond (is_some p.harts) (RECORD_LIMIT + 1 - p.events) (RECORD_LIMIT + 2)
