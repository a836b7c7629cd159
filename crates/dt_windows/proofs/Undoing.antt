use Rattle.std.proofs.Common.{ℕ, ◌≡◌, ◌-◌, ◌≤◌, ◌+◌, Bool, true, false, cond, if◌then◌else◌, List, [], ◌∷◌, ◌++◌, length, take, get_or, Option, None, Some, IsSome, refl, sym, ap, ◌∙◌, subst, inl, inr, arith}
use Rattle.std.specs.Option.{option_map, option_flatten}
use Rattle.std.specs.List.{cons_option, AllByRecursion}
use Rattle.std.specs.List.Sorted.{IsStrictlySortedBy}
use Rattle.std.specs.Ordering.{nat_cmp, match_ordering, is_eq}
use Rattle.std.specs.declared.cmp.Ordering.TheVariants.{Less, Equal, Greater}
use Rattle.std.specs.BTreeMap.{insert_entry}
use Rattle.std.specs.Map.{lookup, keys_of, set_value}
use Rattle.std.specs.VecDeque.{deque_len}
use Rattle.std.proofs.lemmas.Bool.{cases_Bool, cond-true, cond-false}
use Rattle.std.proofs.lemmas.Bool.Decides.{nat_tests}
use Rattle.std.proofs.lemmas.Map.Keys.{sorted_head, sorted_tail}
use Rattle.std.proofs.lemmas.List.{length-append, length-drop, length-take-le}
use Rattle.std.proofs.lemmas.List.Elements.{All-push, All-same}
use Rattle.dt_record.specs.declared.keys.Key.{Key}
use Rattle.dt_record.proofs.Undoing.{at, set_value_back, some_stays, earlier_views-insert, length-earlier_views, earlier_views-led, undone-place, forgotten-place}
use Rattle.dt_windows.specs.declared.steps.Step.{Step}
use Rattle.dt_windows.specs.declared.steps.Steps.{Steps}
use Rattle.dt_windows.specs.declared.windows.Mark.{Mark}
use Rattle.dt_windows.specs.Kept.{WindowsView}
use Rattle.dt_windows.specs.Marks.{IsLive, KeepsMarks, MarksStayLive, pages_at, undone, forgotten}
use Rattle.dt_windows.specs.Pages.{Entries, present, slots_before, past_of, windows_of, HaveSlots, IsWidened, IsStepped}

-- Steps, and what they lead back to.

-- ---- an empty slot that is added

present-insert : (page : ℕ) (es : Entries) → lookup (at page) es ≡ None → present (insert_entry nat_cmp es page None) ≡ present es
present-insert page [] absent = refl
present-insert page (e ∷ es) absent =
    elim (nat_cmp page e.0) as (λ o. nat_cmp page e.0 ≡ o
    → present (match_ordering o ((page, None) ∷ e ∷ es) ((e.0, None) ∷ es) (e ∷ insert_entry nat_cmp es page None)) ≡ present (e ∷ es)) [
      | Less ↦ λ is. refl
      | Equal ↦ λ is.
          let hit = sym (ap (λ o. cond (is_eq o) (Some e.1) (lookup (at page) es)) is) ∙ absent in
          cc
      | Greater ↦ λ is.
          let miss = sym (ap (λ o. cond (is_eq o) (Some e.1) (lookup (at page) es)) is) ∙ absent in
          ap (λ pages. cons_option (option_map (λ key. (e.0, key)) e.1) pages) (present-insert page es miss)
    ] refl

past_of-insert : (page : ℕ) (es : Entries) (steps : List Step) → lookup (at page) es ≡ None → HaveSlots es steps
    → past_of (insert_entry nat_cmp es page None) steps ≡ past_of es steps
past_of-insert page es steps absent have =
    earlier_views-insert (λ (s : Step). s.page) (λ (s : Step). s.key) present page None (present-insert page) es steps absent have

-- ---- slots that are added, and a step

pub IsWidened-same : (es : Entries) → IsWidened es es
IsWidened-same es = record { pages = refl; past = λ steps have. refl; kept = λ page some. some }

pub IsWidened-insert : (page : ℕ) (es : Entries) → lookup (at page) es ≡ None
    → ((other : ℕ) → IsSome (lookup (at other) es) → IsSome (lookup (at other) (insert_entry nat_cmp es page None))) → IsWidened es (insert_entry nat_cmp es page None)
IsWidened-insert page es absent kept = record {
  pages = present-insert page es absent;
  past = λ steps have. past_of-insert page es steps absent have;
  kept = kept;
}

pub have_kept : (es fs : Entries) (steps : List Step) → ((page : ℕ) → IsSome (lookup (at page) es) → IsSome (lookup (at page) fs)) → HaveSlots es steps → HaveSlots fs steps
have_kept es fs steps kept have = λ k d within. kept (get_or steps k d).page (have k d within)

-- one slot that is set, and its step
pub IsStepped-set : (es : Entries) (step : Step) (new : Option Key) (before after : Steps) → lookup (at step.page) es ≡ Some step.key
    → after.keeps ≡ before.keeps → after.from ≡ before.from
    → after.kept.items ≡ (if before.keeps then before.kept.items ++ step ∷ [] else before.kept.items)
    → deque_len after.kept ≤ deque_len before.kept + 1
    → IsStepped es (set_value (at step.page) es new) before after
IsStepped-set es step new before after was keeps from kept counted = record {
  keeps = keeps;
  from = from;
  counted = counted;
  idle = λ off. kept ∙ cond-false before.keeps (before.kept.items ++ step ∷ []) before.kept.items off;
  led = λ on. record {
    added = step ∷ [];
    items = kept ∙ cond-true before.keeps (before.kept.items ++ step ∷ []) before.kept.items on;
    undone = set_value_back (at step.page) es step.key new was;
  };
  slots = λ have. All-same (λ s. IsSome (lookup (at s.page) fs)) after.kept.items _ kept (kept_step (have_kept es fs before.kept.items stay have) before.keeps);
}
  where
    fs : Entries
    fs = set_value (at step.page) es new

    stay : (page : ℕ) → IsSome (lookup (at page) es) → IsSome (lookup (at page) fs)
    stay page some = some_stays (at page) (at step.page) es new some

    kept_step : HaveSlots fs before.kept.items → (b : Bool) → HaveSlots fs (if b then before.kept.items ++ step ∷ [] else before.kept.items)
    kept_step have true = All-push (λ s. IsSome (lookup (at s.page) fs)) before.kept.items step have
        (stay step.page (subst (λ (o : Option (Option Key)). IsSome o) (sym was) refl))
    kept_step have false = have

-- ---- marks

length-led : (es fs : Entries) (before after : Steps) → IsStepped es fs before after → before.keeps ≡ true
    → length (past_of es before.kept.items) ≤ length (past_of fs after.kept.items)
length-led es fs before after is on =
    let led = is.led on in
    omega (arith, length-earlier_views slots_before present es before.kept.items, length-earlier_views slots_before present fs after.kept.items, ap length led.items, length-append before.kept.items led.added)

pub KeepsMarks-stepped : (es fs : Entries) (before after : Steps) (a b c d : Option Key) → IsStepped es fs before after
    → KeepsMarks (windows_of a b es before) (windows_of c d fs after)
KeepsMarks-stepped es fs before after a b c d is = record {
  keeps = is.keeps;
  from = is.from;
  live = λ m live. record {
    keeps = is.keeps ∙ live.keeps;
    kept = omega (arith, is.from, live.kept);
    reached = omega (arith, is.from, live.reached, length-led es fs before after is live.keeps);
  };
  pages = λ m live.
      let led = is.led live.keeps in
      let here : m.at - after.from ≡ m.at - before.from = omega (arith, is.from) in
      let within : m.at - before.from ≤ length before.kept.items = omega (arith, live.reached, live.kept, length-earlier_views slots_before present es before.kept.items) in
      ap (λ n. get_or (past_of fs after.kept.items) n (present fs)) here
      ∙ ap (λ steps. get_or (past_of fs steps) (m.at - before.from) (present fs)) led.items
      ∙ earlier_views-led slots_before present es fs before.kept.items led.added (m.at - before.from) led.undone within;
}

-- the same pages, and the same past
pub KeepsMarks-same : (old new : WindowsView) → new.keeps ≡ old.keeps → new.from ≡ old.from → new.pages ≡ old.pages → new.past ≡ old.past → KeepsMarks old new
KeepsMarks-same old new keeps from pages past = record {
  keeps = keeps;
  from = from;
  live = λ m live. record {
    keeps = keeps ∙ live.keeps;
    kept = omega (arith, from, live.kept);
    reached = omega (arith, from, live.reached, ap length past);
  };
  pages = λ m live. ap (λ n. get_or new.past (m.at - n) new.pages) from ∙ ap (λ keys. get_or new.past (m.at - old.from) keys) pages
      ∙ ap (λ keys. get_or keys (m.at - old.from) old.pages) past;
}

undone_to : (w : WindowsView) (to m : Mark) → IsLive w to → IsLive w m → m.at ≤ to.at → IsLive (undone w to) m × (pages_at (undone w to) m ≡ pages_at w m)
undone_to w to m live other earlier =
    let long : length (take (to.at - w.from) w.past) ≡ to.at - w.from = length-take-le (to.at - w.from) w.past (omega (arith, live.kept, live.reached)) in (
      record { keeps = live.keeps; kept = other.kept; reached = omega (arith, long, live.kept) },
      undone-place w.past w.pages w.from to.at m.at live.kept live.reached other.kept earlier,
    )

forgotten_before : (w : WindowsView) (to m : Mark) → IsLive w to → IsLive w m → to.at ≤ m.at → IsLive (forgotten w to) m × (pages_at (forgotten w to) m ≡ pages_at w m)
forgotten_before w to m live other later = (
  record { keeps = live.keeps; kept = later; reached = omega (arith, length-drop (to.at - w.from) w.past, other.reached, live.reached, live.kept) },
  forgotten-place w.past w.pages w.from to.at m.at live.kept later,
)

pub marks_stay : MarksStayLive
marks_stay = record { undone_to = undone_to; forgotten_before = forgotten_before }

-- ---- the pages

found-past : (q a : ℕ) (o : Option Key) (pages : List (ℕ × Key)) → at q a ≡ false
    → lookup (at q) (cons_option (option_map (λ key. (a, key)) o) pages) ≡ lookup (at q) pages
found-past q a None pages other = refl
found-past q a (Some key) pages other = cond-false (at q a) (Some key) (lookup (at q) pages) other

found_here : (q a : ℕ) (o : Option Key) (pages : List (ℕ × Key)) → at q a ≡ true → lookup (at q) pages ≡ None
    → lookup (at q) (cons_option (option_map (λ key. (a, key)) o) pages) ≡ o
found_here q a None pages same none = none
found_here q a (Some key) pages same none = cond-true (at q a) (Some key) (lookup (at q) pages) same

-- no later page is an earlier one
none_above : (q : ℕ) (es : Entries) → AllByRecursion (λ a. nat_cmp q a ≡ Less) (keys_of es) → lookup (at q) (present es) ≡ None
none_above q [] above = refl
none_above q (e ∷ es) above = found-past q e.0 e.1 (present es) (ap is_eq above.0) ∙ none_above q es above.1

same_page : (q a : ℕ) → at q a ≡ true → a ≡ q
same_page q a same = grind (arith, nat_tests)

pub lookup-present : (q : ℕ) (es : Entries) → IsStrictlySortedBy nat_cmp (keys_of es) → lookup (at q) (present es) ≡ option_flatten (lookup (at q) es)
lookup-present q [] ordered = refl
lookup-present q (e ∷ es) ordered = elim (cases_Bool (at q e.0)) [
  | inl same ↦
      let above : AllByRecursion (λ a. nat_cmp q a ≡ Less) (keys_of es) =
      subst (λ a. AllByRecursion (λ b. nat_cmp a b ≡ Less) (keys_of es)) (same_page q e.0 same) (sorted_head nat_cmp e.0 (keys_of es) ordered) in
      found_here q e.0 e.1 (present es) same (none_above q es above)
      ∙ sym (ap option_flatten (cond-true (at q e.0) (Some e.1) (lookup (at q) es) same))
  | inr other ↦
      found-past q e.0 e.1 (present es) other ∙ lookup-present q es (sorted_tail nat_cmp e.0 (keys_of es) ordered)
      ∙ sym (ap option_flatten (cond-false (at q e.0) (Some e.1) (lookup (at q) es) other))
]
