use Rattle.std.specs.Prelude.{ℕ, ◌≡◌, ◌+◌, ◌-◌, ◌≤◌, true, List, length, slice_index_or, take, drop}
use Rattle.dt_record.specs.declared.keys.Key.{Key}
use Rattle.dt_windows.specs.declared.windows.Mark.{Mark}
use Rattle.dt_windows.specs.Kept.{WindowsView}

-- A mark is a place in the past of what is kept of a hart's fences, with what changes without a step (this project's own).

-- the mark can be undone to: its place is in the past that is kept, or at its end
pub record IsLive (w : WindowsView) (m : Mark) : Type 0 where
  pub keeps : w.keeps ≡ true
  pub kept : w.from ≤ m.at
  pub reached : m.at ≤ w.from + length w.past

-- the pages for which a live mark stands
abbrev pub pages_at : WindowsView → Mark → List (ℕ × Key)
pages_at w m = slice_index_or w.past (m.at - w.from) w.pages

-- what is kept after a live mark is undone to, which drops what came later
abbrev pub undone : WindowsView → Mark → WindowsView
undone w m = record w { instructions = m.instructions; all = m.all; pages = pages_at w m; past = take (m.at - w.from) w.past }

-- what is kept after what came before a live mark is forgotten
abbrev pub forgotten : WindowsView → Mark → WindowsView
forgotten w m = record w { from = m.at; past = drop (m.at - w.from) w.past }

-- each live mark stays live, and stands for the same pages
pub record KeepsMarks (old new : WindowsView) : Type 0 where
  pub keeps : new.keeps ≡ old.keeps
  pub from : new.from ≡ old.from
  pub live : (m : Mark) → IsLive old m → IsLive new m
  pub pages : (m : Mark) → IsLive old m → pages_at new m ≡ pages_at old m

-- A mark that is undone to, and each earlier one, stays live and stands for the same pages; so
-- does one before which all is forgotten, and each later one.
pub record MarksStayLive : Type 0 where
  pub undone_to : (w : WindowsView) (to m : Mark) → IsLive w to → IsLive w m → m.at ≤ to.at
      → IsLive (undone w to) m × (pages_at (undone w to) m ≡ pages_at w m)
  pub forgotten_before : (w : WindowsView) (to m : Mark) → IsLive w to → IsLive w m → to.at ≤ m.at
      → IsLive (forgotten w to) m × (pages_at (forgotten w to) m ≡ pages_at w m)
