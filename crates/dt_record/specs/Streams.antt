use Rattle.std.specs.Prelude.{ℕ, ◌≡◌, ◌<◌, ◌≤◌, ◌+◌, ◌⊎◌, Bool, if◌then◌else◌, Option, None, Some, IsSome, IsSomeAnd, List, ◌∷◌}
use Rattle.dt_record.specs.declared.limits.TheConstants.{HART_LIMIT, RECORD_LIMIT, WRITE_LIMIT}
use Rattle.dt_record.specs.declared.records.Record.{Record}
use Rattle.dt_record.specs.declared.streams.Next.{Next}
use Rattle.dt_record.specs.declared.streams.Next.TheVariants.{Header, Event, End, Malformed, Limit, ReadFault, OutOfMemory}
use Rattle.dt_record.specs.ProbeFile.{IsNext, stamped}
use Rattle.dt_record.specs.Writes.{writes_memory}

-- A count of faults rose in a call: it is greater afterwards, or it stands at the last value of a
-- counter of 64 bits, from where it cannot rise (this project's own).
abbrev pub Rose : ℕ → ℕ → Type 0
Rose before after = (before < after) ⊎ (after ≡ 18446744073709551615)

-- what the answers of a stream have told so far: the header, the stamp of each hart's last record
-- (0 before its first), how many records came and how many of them write memory, and the answer
-- that ended the stream
pub record Progress : Type 0 where
  pub harts : Option ℕ
  pub wide : Bool
  pub stamps : ℕ → ℕ
  pub events : ℕ
  pub writes : ℕ
  pub ended : Option Next

-- nothing was answered yet
pub record IsFresh (p : Progress) : Type 0 where
  pub no_header : p.harts ≡ None
  pub open_still : p.ended ≡ None

-- a header comes first, with 1 to 8 harts
pub record TakesHeader (old : Progress) (harts : ℕ) (wide : Bool) (new : Progress) : Type 0 where
  pub first : old.harts ≡ None
  pub some_hart : 1 ≤ harts
  pub few_harts : harts ≤ HART_LIMIT
  pub harts_are : new.harts ≡ Some harts
  pub wide_is : new.wide ≡ wide
  pub no_stamps : (hart : ℕ) → new.stamps hart ≡ 0
  pub no_events : new.events ≡ 0
  pub no_writes : new.writes ≡ 0
  pub open_still : new.ended ≡ None

-- a record comes after the header, as one that a file may hold next, within the limits
pub record TakesRecord (old : Progress) (r : Record) (new : Progress) : Type 0 where
  pub next : IsSomeAnd old.harts (λ harts. IsNext harts old.stamps r)
  pub harts_stay : new.harts ≡ old.harts
  pub wide_stays : new.wide ≡ old.wide
  pub stamps_are : (hart : ℕ) → new.stamps hart ≡ stamped old.stamps r hart
  pub one_event : new.events ≡ old.events + 1
  pub few_events : new.events ≤ RECORD_LIMIT
  pub one_write : new.writes ≡ old.writes + (if writes_memory r then 1 else 0)
  pub few_writes : new.writes ≤ WRITE_LIMIT
  pub open_still : new.ended ≡ None

-- the stream is over with this answer
pub record EndsWith (old : Progress) (answer : Next) (new : Progress) : Type 0 where
  pub harts_stay : new.harts ≡ old.harts
  pub wide_stays : new.wide ≡ old.wide
  pub stamps_stay : (hart : ℕ) → new.stamps hart ≡ old.stamps hart
  pub events_stay : new.events ≡ old.events
  pub writes_stay : new.writes ≡ old.writes
  pub ended_is : new.ended ≡ Some answer

-- what an answer tells
abbrev pub Continues : Progress → Next → Progress → Type 0
Continues old (Header harts wide) new = TakesHeader old harts wide new
Continues old (Event r) new = TakesRecord old r new
Continues old (End count) new = IsSome old.harts × (count ≡ old.events) × EndsWith old (End count) new
Continues old (Malformed offset) new = EndsWith old (Malformed offset) new
Continues old (Limit what number) new = EndsWith old (Limit what number) new
Continues old ReadFault new = EndsWith old ReadFault new
Continues old OutOfMemory new = EndsWith old OutOfMemory new

-- The answer is the first of those that were left, and the others are left, where the stream tells
-- them; or the stream gives up. Whether it tells never changes.
abbrev pub TakesAnswer : Option (List Next) → Next → Option (List Next) → Type 0
TakesAnswer None answer after = after ≡ None
TakesAnswer (Some answers) ReadFault after = IsSome after
TakesAnswer (Some answers) OutOfMemory after = IsSome after
TakesAnswer (Some answers) answer after = (rest : List Next) × (answers ≡ answer ∷ rest) × (after ≡ Some rest)
