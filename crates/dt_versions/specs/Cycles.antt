use Rattle.std.specs.Prelude.{ℕ, ◌≡◌, ◌<◌, ◌≤◌, ◌==◌, ◌&&◌, ◌||◌, Bool, not, nat_lt, List, length, slice_index_or}
use Rattle.dt_record.specs.declared.keys.Key.{Key}
use Rattle.dt_record.specs.declared.writes.Write.{Write}
use Rattle.dt_record.specs.Keys.{key_below}

-- Where the writes of a cycle stand beside a record: in the order of the keys those of lower harts
-- come first, then the record's own hart's (this project's own).

-- a write of a lower hart, or an own one before the record
abbrev pub is_up_to_before : Key → Write → Bool
is_up_to_before key w = nat_lt w.key.hart key.hart || ((w.key.hart == key.hart) && key_below w.key key)

-- a write of a lower hart, or an own one that is not after the record
abbrev pub is_up_to_own : Key → Write → Bool
is_up_to_own key w = nat_lt w.key.hart key.hart || ((w.key.hart == key.hart) && not (key_below key w.key))

-- the writes of a cycle are those from one place to another
pub record IsCycle (writes : List Write) (at start end : ℕ) : Type 0 where
  pub ends : start ≤ end
  pub within : end ≤ length writes
  pub earlier : (i : ℕ) (d : Write) → i < start → (slice_index_or writes i d).key.stamp < at
  pub inside : (i : ℕ) (d : Write) → start ≤ i → i < end → (slice_index_or writes i d).key.stamp ≡ at
  pub later : (i : ℕ) (d : Write) → end ≤ i → i < length writes → at < (slice_index_or writes i d).key.stamp
