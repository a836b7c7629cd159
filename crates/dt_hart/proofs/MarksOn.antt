use Rattle.std.proofs.Common.{ℕ, ◌≡◌, ◌/◌, ◌∙◌, Option, None, List, refl, sym, ap, subst, arith}
use Rattle.std.specs.BTreeMap.{is_at}
use Rattle.std.specs.Map.{lookup}
use Rattle.std.specs.Ordering.{nat_cmp}
use Rattle.dt_local.specs.LocalMemory.{LocalMemory, Reserved, local_memory}
use Rattle.dt_local.specs.Marks.{keys_at, KeepsMarks as KeepsLocalMarks, MarksStayLive as LocalMarksStay}
use Rattle.dt_record.specs.declared.keys.Key.{Key}
use Rattle.dt_sources.specs.Knowing.{Knows}
use Rattle.dt_step.specs.declared.state.Arch.{Arch}
use Rattle.dt_step.specs.State.{IsArch, IsReachable}
use Rattle.dt_stores.specs.GoingOn.{AreDrainedBelow}
use Rattle.dt_stores.specs.declared.answers.DrainAnswer.{DrainAnswer}
use Rattle.dt_stores.specs.declared.answers.DrainAnswer.TheVariants as answer
use Rattle.dt_stores.specs.Draining.{OnTook, OnRefused}
use Rattle.dt_stores.specs.Kept.{Kept}
use Rattle.dt_stores.specs.Marks.{held_at, KeepsMarks as KeepsStoresMarks, MarksStayLive as StoresMarksStay}
use Rattle.dt_windows.specs.Kept.{WindowsView, later_of}
use Rattle.dt_windows.specs.Marks.{pages_at, KeepsMarks as KeepsWindowsMarks, MarksStayLive as WindowsMarksStay}
use Rattle.dt_hart.specs.declared.marks.HartMark.{HartMark}
use Rattle.dt_hart.specs.Following.{known_in}
use Rattle.dt_hart.specs.HartView.{HartView}
use Rattle.dt_hart.specs.Marks.{IsLive, IsSound, AreAlike, KeepsMarks, MarksGoOn, local_in, stood_at, forgotten}
use Rattle.dt_hart.specs.Settings.{Setting, did, next_key}
use Rattle.dt_hart.specs.Standing.{HartStands}

-- How the marks of a hart go on.

-- ---- the same parts

pub stores_same : (k : Kept) → KeepsStoresMarks k k
stores_same k = record { keeps = refl; from = refl; live = λ m live. live; held = λ m live. refl }

pub local_same : (l : LocalMemory) → KeepsLocalMarks l l
local_same l = record { keeps = refl; from = refl; live = λ m live. live; keys = λ m live. refl }

pub windows_same : (w : WindowsView) → KeepsWindowsMarks w w
windows_same w = record { keeps = refl; from = refl; live = λ m live. live; pages = λ m live. refl }

-- room for a note changes no mark, nor does the use of it
without_room : (old new : LocalMemory) → KeepsLocalMarks old new → KeepsLocalMarks (known_in old) (known_in new)
without_room old new marks = record {
  keeps = marks.keeps;
  from = marks.from;
  live = λ m live. let now = marks.live m (record { keeps = live.keeps; kept = live.kept; reached = live.reached }) in
      record { keeps = now.keeps; kept = now.kept; reached = now.reached };
  keys = λ m live. marks.keys m (record { keeps = live.keeps; kept = live.kept; reached = live.reached });
}

pub notes_marks : (old mid new : LocalMemory) (r : Option Reserved) → mid ≡ record old { reserved = r } → KeepsLocalMarks mid new → KeepsLocalMarks (known_in old) (known_in new)
notes_marks old mid new r is marks = subst (λ (l : LocalMemory). KeepsLocalMarks l (known_in new)) (ap known_in is) (without_room mid new marks)

-- a drain, taken or not
pub drain_marks : (a : DrainAnswer) (old new : Kept) → OnTook a (KeepsStoresMarks old new) → OnRefused a (new ≡ old) → KeepsStoresMarks old new
drain_marks (answer.Took mask bytes) old new took refused = took
drain_marks (answer.Few held) old new took refused = subst (KeepsStoresMarks old) (sym refused) (stores_same old)
drain_marks (answer.Barred seq) old new took refused = subst (KeepsStoresMarks old) (sym refused) (stores_same old)
drain_marks answer.OutOfMemory old new took refused = subst (KeepsStoresMarks old) (sym refused) (stores_same old)

-- ---- harts that are alike

pub alike_stands : (h other : HartView) (s : Setting) → AreAlike h other → HartStands h s → HartStands other s
alike_stands h other s alike stands = record {
  seq = alike.seq ∙ stands.seq;
  stamp = alike.stamp ∙ stands.stamp;
  arch = alike.arch ∙ stands.arch;
  stores = record { held = alike.held ∙ stands.stores.held; ww = alike.ww ∙ stands.stores.ww; wr = alike.wr ∙ stands.stores.wr; filled = stands.stores.filled };
  knows = subst (λ (keys : List (ℕ × Key)). Knows (local_memory keys None) s.writes (did s) s.moments (next_key s)) (sym alike.keys) stands.knows;
  chosen = stands.chosen;
  judged = stands.judged;
  floor = alike.floor ∙ stands.floor;
  last_read = alike.last_read ∙ stands.last_read;
  reserved = alike.reserved ∙ stands.reserved;
  windows = record {
    all = alike.all ∙ stands.windows.all;
    pages = λ va. ap (λ o. later_of o (lookup (is_at (nat_cmp (va / 4096))) other.windows.pages)) alike.all
        ∙ ap (λ (l : List (ℕ × Key)). later_of h.windows.all (lookup (is_at (nat_cmp (va / 4096))) l)) alike.pages ∙ stands.windows.pages va;
    instructions = alike.instructions ∙ stands.windows.instructions;
  };
}

alike_sound : (h other : HartView) → AreAlike h other → IsSound h → IsSound other
alike_sound h other alike sound =
    let with_parts : ℕ → ℕ → ℕ → Key = λ stamp hart seq. record { stamp = stamp; hart = hart; seq = seq } in
    let next : with_parts h.stamp h.arch.hart h.seq ≡ with_parts other.stamp other.arch.hart other.seq =
    ap (λ n. with_parts n h.arch.hart h.seq) (sym alike.stamp) ∙ ap (λ n. with_parts other.stamp n h.seq) (ap (λ (a : Arch). a.hart) (sym alike.arch)) ∙ ap (with_parts other.stamp other.arch.hart) (sym alike.seq) in
    record {
      arch = subst IsArch (sym alike.arch) sound.arch;
      reachable = subst IsReachable (sym alike.arch) sound.reachable;
      counted = record {
        actions = sound.counted.actions;
        stands = record { held = alike.held ∙ sound.counted.stands.held; ww = alike.ww ∙ sound.counted.stands.ww; wr = alike.wr ∙ sound.counted.stands.wr; filled = sound.counted.stands.filled };
        few = omega (arith, sound.counted.few, alike.seq);
        below = subst (λ k. AreDrainedBelow k other.stores.held) next (subst (AreDrainedBelow (with_parts h.stamp h.arch.hart h.seq)) (sym alike.held) sound.counted.below);
      };
    }

-- ---- marks

alike_at : (old new : HartView) (m : HartMark) → held_at new.stores m.stores ≡ held_at old.stores m.stores → keys_at (local_in new) m.local ≡ keys_at (local_in old) m.local
    → pages_at new.windows m.windows ≡ pages_at old.windows m.windows → AreAlike (stood_at old m) (stood_at new m)
alike_at old new m held keys pages = record {
  arch = refl;
  seq = refl;
  stamp = refl;
  held = held;
  ww = refl;
  wr = refl;
  keys = keys;
  floor = refl;
  last_read = refl;
  reserved = refl;
  instructions = refl;
  all = refl;
  pages = pages;
}

go_on : (old new : HartView) (m : HartMark) → KeepsMarks old new → IsLive old m → IsLive new m × AreAlike (stood_at old m) (stood_at new m)
go_on old new m keeps live = (
  record { stores = keeps.stores.live m.stores live.stores; local = keeps.local.live m.local live.local; windows = keeps.windows.live m.windows live.windows },
  alike_at old new m (keeps.stores.held m.stores live.stores) (keeps.local.keys m.local live.local) (keeps.windows.pages m.windows live.windows),
)

pub marks_go : StoresMarksStay → LocalMarksStay → WindowsMarksStay → MarksGoOn
marks_go stores local windows = record {
  kept = go_on;
  undone_to = λ h to m live other earlier.
      let s = stores.undone_to h.stores to.stores m.stores live.stores other.stores earlier.stores in
      let l = local.undone_to (local_in h) to.local m.local live.local other.local earlier.local in
      let w = windows.undone_to h.windows to.windows m.windows live.windows other.windows earlier.windows in
      (record { stores = s.0; local = l.0; windows = w.0 }, alike_at h (stood_at h to) m s.1 l.1 w.1);
  forgotten_before = λ h to m live other later.
      let s = stores.forgotten_before h.stores to.stores m.stores live.stores other.stores later.stores in
      let l = local.forgotten_before (local_in h) to.local m.local live.local other.local later.local in
      let w = windows.forgotten_before h.windows to.windows m.windows live.windows other.windows later.windows in
      (record { stores = s.0; local = l.0; windows = w.0 }, alike_at h (forgotten h to) m s.1 l.1 w.1);
  stands = alike_stands;
  sound = alike_sound;
}
