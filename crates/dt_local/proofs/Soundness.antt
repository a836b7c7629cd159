use Rattle.std.proofs.Common.{ℕ, ◌≡◌, ◌+◌, ◌-◌, ◌≤◌, ◌∙◌, true, Option, None, Some, IsSome, IsTrue, BTreeMap, length, take, drop, refl, sym, ap, subst, arith}
use Rattle.std.specs.BTreeMap.{get}
use Rattle.std.specs.Ordering.{nat_cmp}
use Rattle.std.specs.Map.{lookup}
use Rattle.std.specs.VecDeque.{deque_len, deque_capacity}
use Rattle.std.proofs.lemmas.Bool.{false≢true}
use Rattle.std.proofs.lemmas.Option.{none-some, same_Some}
use Rattle.std.proofs.lemmas.List.Elements.{All-take, All-drop, All-same}
use Rattle.dt_record.specs.Lawful.{is_ram_line}
use Rattle.dt_record.proofs.Undoing.{at, length-earlier_views, earlier_views-at, earlier_views-drop, earlier_views-take}
use Rattle.dt_local.specs.declared.local.Mark.{Mark}
use Rattle.dt_local.specs.declared.slots.Slot.{Slot}
use Rattle.dt_local.specs.declared.steps.Steps.{Steps}
use Rattle.dt_local.specs.LocalMemory.{Reserved, reserved_at}
use Rattle.dt_local.specs.Marks.{IsLive, undone, forgotten}
use Rattle.dt_local.specs.Slots.{Entries, known_bytes, slots_before, before_steps, past_of, memory_of, AreWords, HasRoom, HaveSlots, HasSpare, IsWidened, IsStepped, IsSound}
use Rattle.dt_local.proofs.Undoing.{have_kept}

-- What a local memory keeps, after each of its calls.

-- ---- after room was made

pub record SameSteps (before after : Steps) : Type 0 where
  pub keeps : after.keeps ≡ before.keeps
  pub from : after.from ≡ before.from
  pub kept : after.kept.items ≡ before.kept.items
  pub len : deque_len after.kept ≡ deque_len before.kept
  pub capacity : deque_capacity before.kept ≤ deque_capacity after.kept

pub IsSound-widened : (old new : BTreeMap ℕ Slot) (before after : Steps) (reserved : Option Reserved) → IsSound old before reserved → IsWidened old.entries new.entries
    → AreWords new → SameSteps before after → IsSound new after reserved
IsSound-widened old new before after reserved sound widened words same = record {
  words = words;
  have = All-same (λ s. IsSome (lookup (at s.word) new.entries)) after.kept.items before.kept.items same.kept
      (have_kept old.entries new.entries before.kept.items widened.kept sound.have);
  idle = λ off. same.kept ∙ sound.idle (sym same.keeps ∙ off);
  counted = omega (arith, sound.counted, same.from, same.len);
  line = sound.line;
  room = λ r is place within has. widened.kept _ (sound.room r is place within has);
  spare = λ r is. record {
    room = omega (arith, (sound.spare r is).room, same.len, same.capacity);
    counted = omega (arith, (sound.spare r is).counted, same.from, same.len);
  };
}

pub IsSound-reserved : (slots : BTreeMap ℕ Slot) (steps : Steps) (before : Option Reserved) (line mask : ℕ) → IsSound slots steps before → IsTrue (is_ram_line line)
    → HasRoom slots line mask → HasSpare steps 8 → IsSound slots steps (Some (reserved_at line mask))
IsSound-reserved slots steps before line mask sound lawful room spare = record {
  words = sound.words;
  have = sound.have;
  idle = sound.idle;
  counted = sound.counted;
  line = λ r is. subst (λ (r : Reserved). IsTrue (is_ram_line r.line)) (same_Some _ _ is) lawful;
  room = λ r is. subst (λ (r : Reserved). HasRoom slots r.line r.mask) (same_Some _ _ is) room;
  spare = λ r is. spare;
}

pub memory_of-widened : (es fs : Entries) (before after : Steps) (was reserved : Option Reserved) → IsWidened es fs → HaveSlots es before.kept.items → SameSteps before after
    → memory_of fs after reserved ≡ record (memory_of es before was) { reserved = reserved }
memory_of-widened es fs before after was reserved widened have same =
    let known = widened.known in
    let past = ap (past_of fs) same.kept ∙ widened.past before.kept.items have in
    let keeps = same.keeps in
    let from = same.from in
    cc

-- ---- after a note

pub IsSound-stepped : (old new : BTreeMap ℕ Slot) (before after : Steps) (r : Reserved) → IsSound old before (Some r) → IsStepped old.entries new.entries before after 8
    → AreWords new → IsSound new after None
IsSound-stepped old new before after r sound stepped words = record {
  words = words;
  have = stepped.slots sound.have;
  idle = λ off. let was = sym stepped.keeps ∙ off in stepped.idle was ∙ sound.idle was;
  counted = omega (arith, (sound.spare r refl).counted, stepped.from, stepped.counted);
  line = λ r is. absurd (none-some _ is);
  room = λ r is. absurd (none-some _ is);
  spare = λ r is. absurd (none-some _ is);
}

-- ---- after what came behind a mark is undone

-- the steps before a mark
abbrev pub count_to : Steps → Mark → ℕ
count_to steps m = m.at - steps.from

pub within_steps : (es : Entries) (steps : Steps) (reserved : Option Reserved) (m : Mark) → IsLive (memory_of es steps reserved) m → count_to steps m ≤ length steps.kept.items
within_steps es steps reserved m live = omega (arith, live.reached, length-earlier_views slots_before known_bytes es steps.kept.items)

pub IsSound-undone : (old new : BTreeMap ℕ Slot) (before after : Steps) (reserved : Option Reserved) (count : ℕ) → IsSound old before reserved
    → after.keeps ≡ before.keeps → after.from ≡ before.from → after.kept.items ≡ take count before.kept.items → deque_len after.kept ≤ deque_len before.kept
    → AreWords new → ((word : ℕ) → IsSome (get nat_cmp old word) → IsSome (get nat_cmp new word)) → before.keeps ≡ true → IsSound new after None
IsSound-undone old new before after reserved count sound keeps from kept len words have on = record {
  words = words;
  have = All-same (λ s. IsSome (lookup (at s.word) new.entries)) after.kept.items (take count before.kept.items) kept
      (All-take (λ s. IsSome (lookup (at s.word) new.entries)) count before.kept.items (have_kept old.entries new.entries before.kept.items have sound.have));
  idle = λ off. absurd (false≢true (sym off ∙ keeps ∙ on));
  counted = omega (arith, sound.counted, from, len);
  line = λ r is. absurd (none-some _ is);
  room = λ r is. absurd (none-some _ is);
  spare = λ r is. absurd (none-some _ is);
}

pub memory_of-undone : (es fs : Entries) (before after : Steps) (reserved : Option Reserved) (m : Mark) → after.keeps ≡ before.keeps → after.from ≡ before.from
    → fs ≡ before_steps es (drop (count_to before m) before.kept.items) → after.kept.items ≡ take (count_to before m) before.kept.items
    → memory_of fs after None ≡ undone (memory_of es before reserved) m
memory_of-undone es fs before after reserved m keeps from entries kept =
    let steps = before.kept.items in
    let count = count_to before m in
    let known = ap known_bytes entries ∙ sym (earlier_views-at slots_before known_bytes es steps count) in
    let past = ap (λ gs. past_of gs after.kept.items) entries ∙ ap (past_of (before_steps es (drop count steps))) kept ∙ earlier_views-take slots_before known_bytes es steps count in
    cc

-- ---- after what came before a mark is forgotten

pub IsSound-forgotten : (slots : BTreeMap ℕ Slot) (before after : Steps) (reserved : Option Reserved) (m : Mark) → IsSound slots before reserved
    → after.keeps ≡ before.keeps → after.from ≡ m.at → after.kept.items ≡ drop (count_to before m) before.kept.items
    → deque_len after.kept + count_to before m ≡ deque_len before.kept → deque_capacity after.kept ≡ deque_capacity before.kept → before.keeps ≡ true → before.from ≤ m.at
    → IsSound slots after reserved
IsSound-forgotten slots before after reserved m sound keeps from kept len capacity on later = record {
  words = sound.words;
  have = All-same (λ s. IsSome (lookup (at s.word) slots.entries)) after.kept.items (drop (count_to before m) before.kept.items) kept
      (All-drop (λ s. IsSome (lookup (at s.word) slots.entries)) (count_to before m) before.kept.items sound.have);
  idle = λ off. absurd (false≢true (sym off ∙ keeps ∙ on));
  counted = omega (arith, sound.counted, from, len, later);
  line = sound.line;
  room = sound.room;
  spare = λ r is. record {
    room = omega (arith, (sound.spare r is).room, len, capacity);
    counted = omega (arith, (sound.spare r is).counted, from, len, later);
  };
}

pub memory_of-forgotten : (es : Entries) (before after : Steps) (reserved : Option Reserved) (m : Mark) → after.keeps ≡ before.keeps → after.from ≡ m.at
    → after.kept.items ≡ drop (count_to before m) before.kept.items → memory_of es after reserved ≡ forgotten (memory_of es before reserved) m
memory_of-forgotten es before after reserved m keeps from kept =
    let past = ap (past_of es) kept ∙ earlier_views-drop slots_before known_bytes es before.kept.items (count_to before m) in
    cc
