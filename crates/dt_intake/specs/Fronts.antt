-- Which of the records that were taken for a hart are usable. All of it is this project's own.
use Rattle.std.specs.Prelude.{◌≡◌, ◌<◌, ◌≤◌, ◌+◌, ◌==◌, ◌&&◌, ℕ, Bool, nat_lt, nat_le, if◌then◌else◌, List, [], ◌∷◌, ◌++◌, length}
use mathlib.Core.List.{IsPrefix}
use Rattle.dt_record.specs.declared.limits.TheConstants.{RECORD_LIMIT}
use Rattle.dt_record.specs.declared.records.Record.{Record}
use Rattle.dt_record.specs.Lawful.{is_lawful, IsLawful}

-- the stamp of the last of some records, and this one where there is none
abbrev pub stamp_after : ℕ → List Record → ℕ
stamp_after stamp [] = stamp
stamp_after stamp (r ∷ rs) = stamp_after r.stamp rs

-- a record may be the one with this number of a hart, after one with this stamp
pub record MayBeNext (hart seq stamp : ℕ) (r : Record) : Type 0 where
  -- a hart has no more records than a file may have
  pub number : seq < RECORD_LIMIT
  pub lawful : IsLawful r
  pub its : r.hart ≡ hart
  -- no stamp falls
  pub in_time : stamp ≤ r.stamp

-- the same as a test
abbrev pub may_be_next : ℕ → ℕ → ℕ → Record → Bool
may_be_next hart seq stamp r = nat_lt seq RECORD_LIMIT && (is_lawful r && ((r.hart == hart) && nat_le stamp r.stamp))

-- each of the records may come next after those before it
abbrev pub AreUsable : ℕ → List Record → Type 0
AreUsable hart records = (before after : List Record) (r : Record) → records ≡ before ++ r ∷ after
    → MayBeNext hart (length before) (stamp_after 0 before) r

-- the longest front of usable records, where so many of the hart come before and the last of these has this stamp
abbrev pub front_after : ℕ → ℕ → ℕ → List Record → List Record
front_after hart seq stamp [] = []
front_after hart seq stamp (r ∷ rs) = if may_be_next hart seq stamp r then r ∷ front_after hart (seq + 1) r.stamp rs else []

-- the usable ones of the records that were taken for a hart: their longest front in which each may come next
abbrev pub usable_front : ℕ → List Record → List Record
usable_front hart taken = front_after hart 0 0 taken

-- the front is usable, and no longer front of the records is
pub record IsLongestUsable (hart : ℕ) (records front : List Record) : Type 0 where
  pub first : IsPrefix front records
  pub usable : AreUsable hart front
  pub longest : (other : List Record) → IsPrefix other records → AreUsable hart other → IsPrefix other front
