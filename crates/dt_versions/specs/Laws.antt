use Rattle.std.specs.Prelude.{ℕ, ◌≡◌, ◌≤◌, ◌↔◌, false, Option, Some, None, List, take, IsTrue, Contains}
use Rattle.dt_record.specs.declared.keys.Key.{Key}
use Rattle.dt_record.specs.declared.writes.Write.{Write}
use Rattle.dt_record.specs.Keys.{KeyBelow}
use Rattle.dt_record.specs.Memory.{covers, source_at, moment_of, is_touched}
use Rattle.dt_record.specs.Visible.{IsVisible}
use Rattle.dt_record.specs.LoadSources.{Rank, Lowest, At, rank_below}
use Rattle.dt_versions.specs.History.{are_in_order, writes_until}
use Rattle.dt_versions.specs.Spans.{AreVisible, IsLeastVisible, IsGreatestVisible, first_visible, last_visible}

-- Laws of memory over time (this project's own).

-- the visible moments lie between two ends, and there is one
abbrev pub VisibleIsInterval : Type 0
VisibleIsInterval = (writes : List Write) (key : Key) (at : ℕ) → IsTrue (are_in_order writes) → at ≤ key.stamp
    → AreVisible writes key at (first_visible writes key at) (last_visible writes key at)

-- the first is the least of the moments that are visible, and the last the greatest
abbrev pub FirstVisibleIsLeast : Type 0
FirstVisibleIsLeast = (writes : List Write) (key : Key) (at : ℕ) → IsTrue (are_in_order writes) → at ≤ key.stamp
    → IsLeastVisible writes key at (first_visible writes key at)

abbrev pub LastVisibleIsGreatest : Type 0
LastVisibleIsGreatest = (writes : List Write) (key : Key) (at : ℕ) → IsTrue (are_in_order writes) → at ≤ key.stamp
    → IsGreatestVisible writes key at (last_visible writes key at)

-- where the source of a byte stands: the image below all keys
abbrev pub source_rank : Option Key → Rank
source_rank None = Lowest
source_rank (Some key) = At key

-- the source of a byte at a later moment does not stand below that at an earlier one
abbrev pub SourcesRise : Type 0
SourcesRise = (writes : List Write) (addr j k : ℕ) → IsTrue (are_in_order writes) → j ≤ k
    → rank_below (source_rank (source_at writes k addr)) (source_rank (source_at writes j addr)) ≡ false

-- Two lists of writes are alike to a record: it sees the same moments, and these hold the same
-- writes, so each byte has the same value and the same source.
pub record AreAlike (ws vs : List Write) (key : Key) (at : ℕ) : Type 0 where
  pub visible : (k : ℕ) → IsVisible ws key at k ↔ IsVisible vs key at k
  pub held : (k : ℕ) → IsVisible ws key at k → take k ws ≡ take k vs
  pub own_moment : moment_of ws key ≡ moment_of vs key
  pub own_held : take (moment_of ws key) ws ≡ take (moment_of vs key) vs
  pub touched : (line : ℕ) (from : Key) (but : ℕ) → is_touched ws line from key but ≡ is_touched vs line from key but

-- writes of later cycles do not count for a record
abbrev pub LaterWritesDoNotCount : Type 0
LaterWritesDoNotCount = (writes : List Write) (key : Key) (at : ℕ) → IsTrue (are_in_order writes) → at ≤ key.stamp
    → AreAlike writes (writes_until key.stamp writes) key at

-- the moment of a key is visible for a record with this key, whatever stands later
abbrev pub OwnMomentIsVisible : Type 0
OwnMomentIsVisible = (writes : List Write) (key : Key) → IsTrue (are_in_order writes)
    → IsVisible writes key key.stamp (moment_of writes key)

-- the moment of a later record lies in the span from the first moment that is visible at a fence to the last that is
-- visible at the record
pub record LiesSince (writes : List Write) (fence key : Key) : Type 0 where
  pub seen : first_visible writes fence fence.stamp ≤ moment_of writes fence
  pub rises : moment_of writes fence ≤ moment_of writes key
  pub ends : moment_of writes key ≤ last_visible writes key key.stamp

abbrev pub LaterMomentsLieSince : Type 0
LaterMomentsLieSince = (writes : List Write) (fence key : Key) → IsTrue (are_in_order writes) → KeyBelow fence key
    → LiesSince writes fence key

-- at the moment of a key no byte has a source below a write that stands before the key and covers it
abbrev pub EarlierWritesAreHeld : Type 0
EarlierWritesAreHeld = (writes : List Write) (key : Key) (addr : ℕ) (w : Write) → IsTrue (are_in_order writes) → Contains writes w
    → KeyBelow w.key key → IsTrue (covers addr w)
    → rank_below (source_rank (source_at writes (moment_of writes key) addr)) (At w.key) ≡ false
