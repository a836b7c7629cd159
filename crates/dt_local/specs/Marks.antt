use Rattle.std.specs.Prelude.{ℕ, ◌≡◌, ◌+◌, ◌-◌, ◌≤◌, true, None, List, length, slice_index_or, take, drop}
use Rattle.dt_record.specs.declared.keys.Key.{Key}
use Rattle.dt_local.specs.LocalMemory.{LocalMemory}
use Rattle.dt_local.specs.declared.local.Mark.{Mark}

-- A mark is a place in the past of a local memory (this project's own).

-- the mark can be undone to: its place is in the past that is kept, or at its end
pub record IsLive (l : LocalMemory) (m : Mark) : Type 0 where
  pub keeps : l.keeps ≡ true
  pub kept : l.from ≤ m.at
  pub reached : m.at ≤ l.from + length l.past

-- the keys for which a live mark stands
abbrev pub keys_at : LocalMemory → Mark → List (ℕ × Key)
keys_at l m = slice_index_or l.past (m.at - l.from) l.keys

-- the memory after a live mark is undone to, which drops what came later
abbrev pub undone : LocalMemory → Mark → LocalMemory
undone l m = record l { keys = keys_at l m; reserved = None; past = take (m.at - l.from) l.past }

-- the memory after what came before a live mark is forgotten
abbrev pub forgotten : LocalMemory → Mark → LocalMemory
forgotten l m = record l { from = m.at; past = drop (m.at - l.from) l.past }

-- each live mark stays live, and stands for the same keys
pub record KeepsMarks (old new : LocalMemory) : Type 0 where
  pub keeps : new.keeps ≡ old.keeps
  pub from : new.from ≡ old.from
  pub live : (m : Mark) → IsLive old m → IsLive new m
  pub keys : (m : Mark) → IsLive old m → keys_at new m ≡ keys_at old m

-- A mark that is undone to, and each earlier one, stays live and stands for the same keys; so
-- does one before which all is forgotten, and each later one.
pub record MarksStayLive : Type 0 where
  pub undone_to : (l : LocalMemory) (to m : Mark) → IsLive l to → IsLive l m → m.at ≤ to.at
      → IsLive (undone l to) m × (keys_at (undone l to) m ≡ keys_at l m)
  pub forgotten_before : (l : LocalMemory) (to m : Mark) → IsLive l to → IsLive l m → to.at ≤ m.at
      → IsLive (forgotten l to) m × (keys_at (forgotten l to) m ≡ keys_at l m)
