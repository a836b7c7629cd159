use Rattle.std.proofs.Common.{ℕ, ◌≡◌, ◌+◌, ◌-◌, ◌≤◌, ◌∙◌, true, Option, IsSome, BTreeMap, length, take, drop, sym, ap, arith}
use Rattle.std.specs.BTreeMap.{get}
use Rattle.std.specs.Ordering.{nat_cmp}
use Rattle.std.specs.Map.{lookup}
use Rattle.std.specs.VecDeque.{deque_len}
use Rattle.std.proofs.lemmas.Bool.{false≢true}
use Rattle.std.proofs.lemmas.List.Elements.{All-take, All-drop, All-same}
use Rattle.dt_record.specs.declared.keys.Key.{Key}
use Rattle.dt_record.proofs.Undoing.{at, length-earlier_views, earlier_views-at, earlier_views-drop, earlier_views-take}
use Rattle.dt_windows.specs.declared.steps.Steps.{Steps}
use Rattle.dt_windows.specs.declared.windows.Mark.{Mark}
use Rattle.dt_windows.specs.Marks.{IsLive, undone, forgotten}
use Rattle.dt_windows.specs.Pages.{Entries, present, slots_before, before_steps, past_of, windows_of, AreSlots, HaveSlots, HasSpare, IsWidened, IsStepped, IsSound}
use Rattle.dt_windows.proofs.Undoing.{have_kept}

-- What is kept of a hart's fences, after each call.

-- ---- after room was made

pub record SameSteps (before after : Steps) : Type 0 where
  pub keeps : after.keeps ≡ before.keeps
  pub from : after.from ≡ before.from
  pub kept : after.kept.items ≡ before.kept.items
  pub len : deque_len after.kept ≡ deque_len before.kept

pub IsSound-widened : (old new : BTreeMap ℕ (Option Key)) (before after : Steps) → IsSound old before → IsWidened old.entries new.entries
    → AreSlots new → SameSteps before after → IsSound new after
IsSound-widened old new before after sound widened slots same = record {
  are_slots = slots;
  have = All-same (λ s. IsSome (lookup (at s.page) new.entries)) after.kept.items before.kept.items same.kept
      (have_kept old.entries new.entries before.kept.items widened.kept sound.have);
  idle = λ off. same.kept ∙ sound.idle (sym same.keeps ∙ off);
  counted = omega (arith, sound.counted, same.from, same.len);
}

pub windows_of-widened : (es fs : Entries) (before after : Steps) (instructions all : Option Key) → IsWidened es fs → HaveSlots es before.kept.items → SameSteps before after
    → windows_of instructions all fs after ≡ windows_of instructions all es before
windows_of-widened es fs before after instructions all widened have same =
    let pages = widened.pages in
    let past = ap (past_of fs) same.kept ∙ widened.past before.kept.items have in
    let keeps = same.keeps in
    let from = same.from in
    cc

-- ---- after a fence of a page

pub IsSound-stepped : (old new : BTreeMap ℕ (Option Key)) (before after : Steps) → IsSound old before → IsStepped old.entries new.entries before after
    → HasSpare before → AreSlots new → IsSound new after
IsSound-stepped old new before after sound stepped spare slots = record {
  are_slots = slots;
  have = stepped.slots sound.have;
  idle = λ off. let was = sym stepped.keeps ∙ off in stepped.idle was ∙ sound.idle was;
  counted = omega (arith, spare.counted, stepped.from, stepped.counted);
}

-- ---- after what came behind a mark is undone

-- the steps before a mark
abbrev pub count_to : Steps → Mark → ℕ
count_to steps m = m.at - steps.from

pub within_steps : (es : Entries) (steps : Steps) (instructions all : Option Key) (m : Mark) → IsLive (windows_of instructions all es steps) m → count_to steps m ≤ length steps.kept.items
within_steps es steps instructions all m live = omega (arith, live.reached, length-earlier_views slots_before present es steps.kept.items)

pub IsSound-undone : (old new : BTreeMap ℕ (Option Key)) (before after : Steps) (count : ℕ) → IsSound old before
    → after.keeps ≡ before.keeps → after.from ≡ before.from → after.kept.items ≡ take count before.kept.items → deque_len after.kept ≤ deque_len before.kept
    → AreSlots new → ((page : ℕ) → IsSome (get nat_cmp old page) → IsSome (get nat_cmp new page)) → before.keeps ≡ true → IsSound new after
IsSound-undone old new before after count sound keeps from kept len slots have on = record {
  are_slots = slots;
  have = All-same (λ s. IsSome (lookup (at s.page) new.entries)) after.kept.items (take count before.kept.items) kept
      (All-take (λ s. IsSome (lookup (at s.page) new.entries)) count before.kept.items (have_kept old.entries new.entries before.kept.items have sound.have));
  idle = λ off. absurd (false≢true (sym off ∙ keeps ∙ on));
  counted = omega (arith, sound.counted, from, len);
}

pub windows_of-undone : (es fs : Entries) (before after : Steps) (instructions all : Option Key) (m : Mark) → after.keeps ≡ before.keeps → after.from ≡ before.from
    → fs ≡ before_steps es (drop (count_to before m) before.kept.items) → after.kept.items ≡ take (count_to before m) before.kept.items
    → windows_of m.instructions m.all fs after ≡ undone (windows_of instructions all es before) m
windows_of-undone es fs before after instructions all m keeps from entries kept =
    let steps = before.kept.items in
    let count = count_to before m in
    let pages = ap present entries ∙ sym (earlier_views-at slots_before present es steps count) in
    let past = ap (λ gs. past_of gs after.kept.items) entries ∙ ap (past_of (before_steps es (drop count steps))) kept ∙ earlier_views-take slots_before present es steps count in
    cc

-- ---- after what came before a mark is forgotten

pub IsSound-forgotten : (slots : BTreeMap ℕ (Option Key)) (before after : Steps) (m : Mark) → IsSound slots before
    → after.keeps ≡ before.keeps → after.from ≡ m.at → after.kept.items ≡ drop (count_to before m) before.kept.items
    → deque_len after.kept + count_to before m ≡ deque_len before.kept → before.keeps ≡ true → before.from ≤ m.at
    → IsSound slots after
IsSound-forgotten slots before after m sound keeps from kept len on later = record {
  are_slots = sound.are_slots;
  have = All-same (λ s. IsSome (lookup (at s.page) slots.entries)) after.kept.items (drop (count_to before m) before.kept.items) kept
      (All-drop (λ s. IsSome (lookup (at s.page) slots.entries)) (count_to before m) before.kept.items sound.have);
  idle = λ off. absurd (false≢true (sym off ∙ keeps ∙ on));
  counted = omega (arith, sound.counted, from, len, later);
}

pub windows_of-forgotten : (es : Entries) (before after : Steps) (instructions all : Option Key) (m : Mark) → after.keeps ≡ before.keeps → after.from ≡ m.at
    → after.kept.items ≡ drop (count_to before m) before.kept.items → windows_of instructions all es after ≡ forgotten (windows_of instructions all es before) m
windows_of-forgotten es before after instructions all m keeps from kept =
    let past = ap (past_of es) kept ∙ earlier_views-drop slots_before present es before.kept.items (count_to before m) in
    cc
