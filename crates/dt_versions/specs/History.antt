use Rattle.std.specs.Prelude.{ℕ, ◌≤◌, ◌<◌, ◌&&◌, Bool, true, List, [], ◌∷◌, length, filter, nat_le, IsTrue}
use Rattle.std.specs.List.{list_all}
use Rattle.dt_record.specs.declared.limits.TheConstants.{WRITE_LIMIT}
use Rattle.dt_record.specs.declared.writes.Write.{Write}
use Rattle.dt_record.specs.Keys.{key_below}
use Rattle.dt_record.specs.Lawful.{is_ram_line}

-- an image and the writes that happened over it, in their order (this project's own)
pub record History : Type 0 where
  pub image : List ℕ
  pub writes : List Write

abbrev pub history : List ℕ → List Write → History
history image writes = record { image = image; writes = writes }

-- whether each write's key is above those of all writes before it
abbrev pub are_in_order : List Write → Bool
are_in_order [] = true
are_in_order (w ∷ ws) = list_all (λ v. key_below w.key v.key) ws && are_in_order ws

-- what holds of every history that is kept
pub record IsKept (h : History) : Type 0 where
  pub in_order : IsTrue (are_in_order h.writes)
  pub in_ram : IsTrue (list_all (λ w. is_ram_line w.line) h.writes)
  pub within_limit : length h.writes ≤ WRITE_LIMIT

-- a write that can be added to a history
pub record CanAdd (h : History) (w : Write) : Type 0 where
  pub above_all : IsTrue (list_all (λ v. key_below v.key w.key) h.writes)
  pub in_ram : IsTrue (is_ram_line w.line)
  pub has_room : length h.writes < WRITE_LIMIT

-- the writes up to a cycle
abbrev pub writes_until : ℕ → List Write → List Write
writes_until stamp writes = filter (λ w. nat_le w.key.stamp stamp) writes
