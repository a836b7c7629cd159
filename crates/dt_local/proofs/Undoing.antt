use Rattle.std.proofs.Common.{ℕ, ◌≡◌, ◌-◌, ◌≤◌, ◌+◌, Bool, true, false, cond, if◌then◌else◌, List, [], ◌∷◌, ◌++◌, length, take, get_or, Option, None, Some, IsSome, refl, sym, ap, ◌∙◌, subst, arith}
use Rattle.std.specs.Ordering.{nat_cmp, match_ordering, is_eq}
use Rattle.std.specs.declared.cmp.Ordering.TheVariants.{Less, Equal, Greater}
use Rattle.std.specs.BTreeMap.{insert_entry}
use Rattle.std.specs.Map.{lookup, set_value}
use Rattle.std.specs.VecDeque.{deque_len, deque_capacity}
use Rattle.std.proofs.lemmas.Bool.{cond-true, cond-false}
use Rattle.std.proofs.lemmas.List.{append-nil, append_assoc, length-append, length-drop, length-take-le}
use Rattle.std.proofs.lemmas.List.Elements.{All-push, All-same}
use Rattle.dt_record.proofs.Undoing.{at, set_value_back, some_stays, earlier_views-insert, earlier_state-append, length-earlier_views, earlier_views-led, undone-place, forgotten-place}
use Rattle.dt_local.specs.declared.slots.Slot.{Slot}
use Rattle.dt_local.specs.declared.steps.Step.{Step}
use Rattle.dt_local.specs.declared.steps.Steps.{Steps}
use Rattle.dt_local.specs.declared.local.Mark.{Mark}
use Rattle.dt_local.specs.LocalMemory.{LocalMemory, Reserved}
use Rattle.dt_local.specs.Marks.{IsLive, KeepsMarks, MarksStayLive, keys_at, undone, forgotten}
use Rattle.dt_local.specs.Slots.{Entries, present, word_bytes, known_bytes, slots_before, before_steps, past_of, memory_of, HaveSlots, IsWidened, IsStepped, LeadsBack}
use Rattle.dt_local.proofs.Bytes.{no_bytes}

-- Steps, and what they lead back to.

-- ---- an empty slot that is added

known_bytes-insert : (word : ℕ) (slot : Slot) (es : Entries) → slot.mask ≡ 0 → lookup (at word) es ≡ None → known_bytes (insert_entry nat_cmp es word slot) ≡ known_bytes es
known_bytes-insert word slot [] empty absent = ap (λ bytes. bytes ++ []) (no_bytes word slot empty)
known_bytes-insert word slot (e ∷ es) empty absent =
    elim (nat_cmp word e.0) as (λ o. nat_cmp word e.0 ≡ o
    → known_bytes (match_ordering o ((word, slot) ∷ e ∷ es) ((e.0, slot) ∷ es) (e ∷ insert_entry nat_cmp es word slot)) ≡ known_bytes (e ∷ es)) [
      | Less ↦ λ is. ap (λ bytes. bytes ++ known_bytes (e ∷ es)) (no_bytes word slot empty)
      | Equal ↦ λ is.
          let hit = sym (ap (λ o. cond (is_eq o) (Some e.1) (lookup (at word) es)) is) ∙ absent in
          cc
      | Greater ↦ λ is.
          let miss = sym (ap (λ o. cond (is_eq o) (Some e.1) (lookup (at word) es)) is) ∙ absent in
          ap (λ bytes. present (word_bytes e) ++ bytes) (known_bytes-insert word slot es empty miss)
    ] refl

past_of-insert : (word : ℕ) (slot : Slot) (es : Entries) (steps : List Step) → slot.mask ≡ 0 → lookup (at word) es ≡ None → HaveSlots es steps
    → past_of (insert_entry nat_cmp es word slot) steps ≡ past_of es steps
past_of-insert word slot es steps empty absent have =
    earlier_views-insert (λ (s : Step). s.word) (λ (s : Step). s.slot) known_bytes word slot (λ es. known_bytes-insert word slot es empty) es steps absent have

-- ---- slots that are added, and steps, one after another

pub IsWidened-same : (es : Entries) → IsWidened es es
IsWidened-same es = record { known = refl; past = λ steps have. refl; kept = λ word some. some }

pub IsWidened-insert : (word : ℕ) (slot : Slot) (es : Entries) → slot.mask ≡ 0 → lookup (at word) es ≡ None
    → ((other : ℕ) → IsSome (lookup (at other) es) → IsSome (lookup (at other) (insert_entry nat_cmp es word slot))) → IsWidened es (insert_entry nat_cmp es word slot)
IsWidened-insert word slot es empty absent kept = record {
  known = known_bytes-insert word slot es empty absent;
  past = λ steps have. past_of-insert word slot es steps empty absent have;
  kept = kept;
}

pub have_kept : (es fs : Entries) (steps : List Step) → ((word : ℕ) → IsSome (lookup (at word) es) → IsSome (lookup (at word) fs)) → HaveSlots es steps → HaveSlots fs steps
have_kept es fs steps kept have = λ k d within. kept (get_or steps k d).word (have k d within)

pub IsWidened-chain : (es fs gs : Entries) → IsWidened es fs → IsWidened fs gs → IsWidened es gs
IsWidened-chain es fs gs first second = record {
  known = second.known ∙ first.known;
  past = λ steps have. second.past steps (have_kept es fs steps first.kept have) ∙ first.past steps have;
  kept = λ word some. second.kept word (first.kept word some);
}

pub IsStepped-none : (es : Entries) (steps : Steps) → IsStepped es es steps steps 0
IsStepped-none es steps = record {
  keeps = refl;
  from = refl;
  counted = omega arith;
  capacity = refl;
  idle = λ off. refl;
  led = λ on. record { added = []; items = sym (append-nil steps.kept.items); undone = refl };
  slots = λ have. have;
  words = λ word some. some;
}

pub IsStepped-more : (es fs : Entries) (steps others : Steps) (few most : ℕ) → few ≤ most → IsStepped es fs steps others few → IsStepped es fs steps others most
IsStepped-more es fs steps others few most fewer is = record {
  keeps = is.keeps;
  from = is.from;
  counted = omega (arith, is.counted);
  capacity = is.capacity;
  idle = is.idle;
  led = is.led;
  slots = is.slots;
  words = is.words;
}

LeadsBack-chain : (es fs gs : Entries) (ss ts us : List Step) → LeadsBack es fs ss ts → LeadsBack fs gs ts us → LeadsBack es gs ss us
LeadsBack-chain es fs gs ss ts us first second = record {
  added = first.added ++ second.added;
  items = second.items ∙ ap (λ steps. steps ++ second.added) first.items ∙ append_assoc ss first.added second.added;
  undone = earlier_state-append slots_before gs first.added second.added ∙ ap (λ fs. before_steps fs first.added) second.undone ∙ first.undone;
}

pub IsStepped-chain : (es fs gs : Entries) (ss ts us : Steps) (m n : ℕ) → IsStepped es fs ss ts m → IsStepped fs gs ts us n → IsStepped es gs ss us (m + n)
IsStepped-chain es fs gs ss ts us m n first second = record {
  keeps = second.keeps ∙ first.keeps;
  from = second.from ∙ first.from;
  counted = omega (arith, first.counted, second.counted);
  capacity = second.capacity ∙ first.capacity;
  idle = λ off. second.idle (first.keeps ∙ off) ∙ first.idle off;
  led = λ on. LeadsBack-chain es fs gs ss.kept.items ts.kept.items us.kept.items (first.led on) (second.led (first.keeps ∙ on));
  slots = λ have. second.slots (first.slots have);
  words = λ word some. second.words word (first.words word some);
}

-- one slot that is set, and its step
pub IsStepped-set : (es : Entries) (step : Step) (new : Slot) (before after : Steps) → lookup (at step.word) es ≡ Some step.slot
    → after.keeps ≡ before.keeps → after.from ≡ before.from
    → after.kept.items ≡ (if before.keeps then before.kept.items ++ step ∷ [] else before.kept.items)
    → deque_len after.kept ≤ deque_len before.kept + 1 → deque_capacity after.kept ≡ deque_capacity before.kept
    → IsStepped es (set_value (at step.word) es new) before after 1
IsStepped-set es step new before after was keeps from kept counted capacity = record {
  keeps = keeps;
  from = from;
  counted = counted;
  capacity = capacity;
  idle = λ off. kept ∙ cond-false before.keeps (before.kept.items ++ step ∷ []) before.kept.items off;
  led = λ on. record {
    added = step ∷ [];
    items = kept ∙ cond-true before.keeps (before.kept.items ++ step ∷ []) before.kept.items on;
    undone = set_value_back (at step.word) es step.slot new was;
  };
  slots = λ have. All-same (λ s. IsSome (lookup (at s.word) fs)) after.kept.items _ kept (with_step (have_kept es fs before.kept.items stay have) before.keeps);
  words = stay;
}
  where
    fs : Entries
    fs = set_value (at step.word) es new

    stay : (word : ℕ) → IsSome (lookup (at word) es) → IsSome (lookup (at word) fs)
    stay word some = some_stays (at word) (at step.word) es new some

    with_step : HaveSlots fs before.kept.items → (b : Bool) → HaveSlots fs (if b then before.kept.items ++ step ∷ [] else before.kept.items)
    with_step have true = All-push (λ s. IsSome (lookup (at s.word) fs)) before.kept.items step have
        (stay step.word (subst (λ (o : Option Slot). IsSome o) (sym was) refl))
    with_step have false = have

-- ---- marks

length-led : (es fs : Entries) (before after : Steps) (most : ℕ) → IsStepped es fs before after most → before.keeps ≡ true
    → length (past_of es before.kept.items) ≤ length (past_of fs after.kept.items)
length-led es fs before after most is on =
    let led = is.led on in
    omega (arith, length-earlier_views slots_before known_bytes es before.kept.items, length-earlier_views slots_before known_bytes fs after.kept.items, ap length led.items, length-append before.kept.items led.added)

pub KeepsMarks-stepped : (es fs : Entries) (before after : Steps) (most : ℕ) (reserved : Option Reserved) → IsStepped es fs before after most
    → KeepsMarks (memory_of es before reserved) (memory_of fs after None)
KeepsMarks-stepped es fs before after most reserved is = record {
  keeps = is.keeps;
  from = is.from;
  live = λ m live. record {
    keeps = is.keeps ∙ live.keeps;
    kept = omega (arith, is.from, live.kept);
    reached = omega (arith, is.from, live.reached, length-led es fs before after most is live.keeps);
  };
  keys = λ m live.
      let led = is.led live.keeps in
      let here : m.at - after.from ≡ m.at - before.from = omega (arith, is.from) in
      let within : m.at - before.from ≤ length before.kept.items = omega (arith, live.reached, live.kept, length-earlier_views slots_before known_bytes es before.kept.items) in
      ap (λ n. get_or (past_of fs after.kept.items) n (known_bytes fs)) here
      ∙ ap (λ steps. get_or (past_of fs steps) (m.at - before.from) (known_bytes fs)) led.items
      ∙ earlier_views-led slots_before known_bytes es fs before.kept.items led.added (m.at - before.from) led.undone within;
}

undone_to : (l : LocalMemory) (to m : Mark) → IsLive l to → IsLive l m → m.at ≤ to.at → IsLive (undone l to) m × (keys_at (undone l to) m ≡ keys_at l m)
undone_to l to m live other earlier =
    let long : length (take (to.at - l.from) l.past) ≡ to.at - l.from = length-take-le (to.at - l.from) l.past (omega (arith, live.kept, live.reached)) in (
      record { keeps = live.keeps; kept = other.kept; reached = omega (arith, long, live.kept) },
      undone-place l.past l.keys l.from to.at m.at live.kept live.reached other.kept earlier,
    )

forgotten_before : (l : LocalMemory) (to m : Mark) → IsLive l to → IsLive l m → to.at ≤ m.at → IsLive (forgotten l to) m × (keys_at (forgotten l to) m ≡ keys_at l m)
forgotten_before l to m live other later = (
  record { keeps = live.keeps; kept = later; reached = omega (arith, length-drop (to.at - l.from) l.past, other.reached, live.reached, live.kept) },
  forgotten-place l.past l.keys l.from to.at m.at live.kept later,
)

pub marks_stay : MarksStayLive
marks_stay = record { undone_to = undone_to; forgotten_before = forgotten_before }
