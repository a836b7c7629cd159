use Rattle.std.specs.Prelude.{ℕ, ◌≤◌, ◌==◌, ◌&&◌, ◌||◌, Bool, not, List, length, take, drop, nat_lt, nat_le, IsTrue}
use Rattle.std.specs.List.{list_all}
use Rattle.dt_record.specs.declared.keys.Key.{Key}
use Rattle.dt_record.specs.declared.writes.Write.{Write}
use Rattle.dt_record.specs.Keys.{key_below}

-- What a hart may see at a record with this key, in a cycle not above its stamp (this project's own).

-- a write that has to be seen: of an earlier cycle, or an own one before the record and not after the cycle
abbrev pub must_see : Key → ℕ → Write → Bool
must_see key at w = nat_lt w.key.stamp at || ((w.key.hart == key.hart) && (key_below w.key key && nat_le w.key.stamp at))

-- a write that cannot be seen: of a later cycle, or an own one after the record
abbrev pub cannot_see : Key → ℕ → Write → Bool
cannot_see key at w = nat_lt at w.key.stamp || ((w.key.hart == key.hart) && key_below key w.key)

-- A moment is visible where the first k writes hold all that have to be seen and none that cannot be.
-- Another hart's write of that very cycle may go either way.
pub record IsVisible (writes : List Write) (key : Key) (at k : ℕ) : Type 0 where
  pub within : k ≤ length writes
  pub seen : IsTrue (list_all (λ w. not (cannot_see key at w)) (take k writes))
  pub unseen : IsTrue (list_all (λ w. not (must_see key at w)) (drop k writes))
