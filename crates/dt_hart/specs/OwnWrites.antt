use Rattle.std.specs.Prelude.{ℕ, ◌≡◌, ◌==◌, ◌&&◌, Bool, true, List, [], ◌∷◌, ◌++◌, filter, nat_le, IsTrue}
use Rattle.std.specs.List.{list_all}
use Rattle.dt_record.specs.declared.records.Record.{Record}
use Rattle.dt_versions.specs.History.{are_in_order}
use Rattle.dt_writes.specs.OwnWrites.{own_writes_from}
use Rattle.dt_hart.specs.Settings.{Setting}

-- How a hart's records and its writes among all writes belong together (this project's own).

-- no stamp falls
abbrev pub are_rising : List Record → Bool
are_rising [] = true
are_rising (r ∷ rs) = list_all (λ q. nat_le r.stamp q.stamp) rs && are_rising rs

abbrev pub are_of : ℕ → List Record → Bool
are_of hart records = list_all (λ r. r.hart == hart) records

-- The hart's records go on with this one, and then with more: all are of the hart, their stamps do not fall, and the
-- hart's writes among all writes, which stand in the order of their keys, are those of its records.
pub record GoesOn (s : Setting) (r : Record) : Type 0 where
  pub more : List Record
  pub its : IsTrue (are_of s.hart (s.before ++ r ∷ more))
  pub rising : IsTrue (are_rising (s.before ++ r ∷ more))
  pub in_order : IsTrue (are_in_order s.writes)
  pub own : filter (λ w. w.key.hart == s.hart) s.writes ≡ own_writes_from 0 (s.before ++ r ∷ more)
