use Rattle.std.specs.Prelude.{ℕ, ◌≡◌, ◌+◌, ◌-◌, ◌≤◌, ◌&&◌, Bool, true, List, length, slice_index_or, take, drop, nat_le, IsTrue}
use Rattle.std.specs.List.{list_all}
use Rattle.dt_record.specs.Actions.{Held}
use Rattle.dt_stores.specs.declared.buffer.Mark.{Mark}
use Rattle.dt_stores.specs.Kept.{Kept}

-- A mark is a place in the past of a hart's stores, with its numbers of fences, which change without a step (this
-- project's own).

-- the stores came before no more fences than these
abbrev pub are_fenced : (ww wr : ℕ) → List Held → Bool
are_fenced ww wr held = list_all (λ h. nat_le h.barrier ww && nat_le h.readers wr) held

-- the stores for which a live mark stands
abbrev pub held_at : Kept → Mark → List Held
held_at k m = slice_index_or k.past (m.at - k.from) k.held

-- the mark can be undone to: its place is in the past that is kept, or at its end, and no store there came before more
-- fences than the mark has
pub record IsLive (k : Kept) (m : Mark) : Type 0 where
  pub keeps : k.keeps ≡ true
  pub kept : k.from ≤ m.at
  pub reached : m.at ≤ k.from + length k.past
  pub fences : IsTrue (are_fenced m.ww m.wr (held_at k m))

-- what is kept after a live mark is undone to, which drops what came later
abbrev pub undone : Kept → Mark → Kept
undone k m = record k { held = held_at k m; ww = m.ww; wr = m.wr; past = take (m.at - k.from) k.past }

-- what is kept after what came before a live mark is forgotten
abbrev pub forgotten : Kept → Mark → Kept
forgotten k m = record k { from = m.at; past = drop (m.at - k.from) k.past }

-- each live mark stays live, and stands for the same stores
pub record KeepsMarks (old new : Kept) : Type 0 where
  pub keeps : new.keeps ≡ old.keeps
  pub from : new.from ≡ old.from
  pub live : (m : Mark) → IsLive old m → IsLive new m
  pub held : (m : Mark) → IsLive old m → held_at new m ≡ held_at old m

-- A mark that is undone to, and each earlier one, stays live and stands for the same stores; so
-- does one before which all is forgotten, and each later one.
pub record MarksStayLive : Type 0 where
  pub undone_to : (k : Kept) (to m : Mark) → IsLive k to → IsLive k m → m.at ≤ to.at
      → IsLive (undone k to) m × (held_at (undone k to) m ≡ held_at k m)
  pub forgotten_before : (k : Kept) (to m : Mark) → IsLive k to → IsLive k m → to.at ≤ m.at
      → IsLive (forgotten k to) m × (held_at (forgotten k to) m ≡ held_at k m)
