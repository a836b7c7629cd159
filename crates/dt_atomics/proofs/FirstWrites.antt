use Rattle.std.proofs.Common.{ℕ, ◌≡◌, ◌+◌, ◌-◌, ◌*◌, ◌≤◌, ◌↔◌, ◌&&◌, ◌==◌, Bool, true, false, not, if◌then◌else◌, Option, Some, None, List, [], ◌∷◌, ◌++◌, filter, length, map, replicate, take, zero, suc, Result, Ok, Err, IsTrue, refl, sym, ap, subst, ◌∙◌, inl, inr, arith}
use Rattle.std.specs.Prelude.{Contains, nat_lt, ⊤}
use Rattle.std.specs.List.{list_all, list_any, range_with_len}
use Rattle.std.proofs.lemmas.Bool.{and_parts, cases_Bool}
use Rattle.std.proofs.lemmas.Bool.Decides.{nat_tests}
use Rattle.std.proofs.lemmas.List.{take-append-le}
use Rattle.std.proofs.lemmas.List.Elements.{All-contains, Contains-append_cases, Contains-append_left}
use Rattle.std.proofs.lemmas.List.Sums.{AllPass-from_list_all}
use Rattle.dt_lists.proofs.Lists.{filter-within}
use Rattle.dt_rules.specs.declared.misfits.Passed.{Passed}
use Rattle.dt_record.specs.declared.keys.Key.{Key}
use Rattle.dt_record.specs.declared.origins.Origin.{Origin}
use Rattle.dt_record.specs.declared.origins.Origin.TheVariants as origin
use Rattle.dt_record.specs.declared.origins.Sources.{Sources}
use Rattle.dt_record.specs.declared.writes.Write.{Write}
use Rattle.dt_record.specs.Keys.{KeyBelow, key_below}
use Rattle.dt_record.specs.LoadSources.{origin_of_key}
use Rattle.dt_record.specs.Memory.{is_touched, line_of, memory_at, moment_of, source_at}
use Rattle.dt_rules.specs.declared.misfits.Misfit.{Misfit}
use Rattle.dt_rules.specs.Checks.{and_then}
use Rattle.dt_rules.specs.Reservations.{is_live}
use Rattle.dt_sources.specs.Knowing.{IsKnownKey, WroteBefore}
use Rattle.dt_atomics.specs.declared.accesses.AtomicAccess.{AtomicAccess}
use Rattle.dt_atomics.specs.Answers.{AtomicPasses, IsAtomicAnswer, access_check, atomic_letters, fails_alive, may_succeed, old_value}
use Rattle.dt_atomics.specs.Asking.{has_failed, reads}
use Rattle.dt_atomics.specs.Draining.{all_drained_check}
use Rattle.dt_atomics.specs.Grounds.{AtomicGrounds}
use Rattle.dt_atomics.specs.Laws.{FirstWritesDecideAtomics, HadAlike, with_writes}
use Rattle.dt_atomics.specs.Reading.{ReadsNewer, source_of, sources_of}
use Rattle.dt_atomics.specs.Values.{number_at, success_check, value_check, write_check}

-- Writes of later cycles do not change the answer to an atomic.

filter_front : {X : Type 0} (p stops : X → Bool) (xs ys : List X) → ((y : X) → IsTrue (stops y) → p y ≡ false) → IsTrue (list_all stops ys) → filter p (xs ++ ys) ≡ filter p xs
filter_front p stops [] [] fails all = refl
filter_front p stops [] (y ∷ ys) fails all =
    let parts = and_parts (stops y) (list_all stops ys) all in
    rw (fails y parts.0) (filter_front p stops [] ys fails parts.1)
filter_front p stops (x ∷ xs) ys fails all = elim (cases_Bool (p x)) [
  | inl passes ↦ rw passes (ap (λ zs. x ∷ zs) (filter_front p stops xs ys fails all))
  | inr stop ↦ rw stop (filter_front p stops xs ys fails all)
]

any_front : {X : Type 0} (p stops : X → Bool) (xs ys : List X) → ((y : X) → IsTrue (stops y) → p y ≡ false) → IsTrue (list_all stops ys) → list_any p (xs ++ ys) ≡ list_any p xs
any_front p stops [] [] fails all = refl
any_front p stops [] (y ∷ ys) fails all =
    let parts = and_parts (stops y) (list_all stops ys) all in
    rw (fails y parts.0) (any_front p stops [] ys fails parts.1)
any_front p stops (x ∷ xs) ys fails all = elim (cases_Bool (p x)) [
  | inl passes ↦ rw passes refl
  | inr stop ↦ rw stop (any_front p stops xs ys fails all)
]

ends_false : (a b c d : Bool) → d ≡ false → (a && (b && (c && d))) ≡ false
ends_false false b c d is = refl
ends_false true false c d is = refl
ends_false true true false d is = refl
ends_false true true true d is = is

not_below : (key : Key) (w : Write) → IsTrue (nat_lt key.stamp w.key.stamp) → key_below w.key key ≡ false
not_below key w later = grind (arith, nat_tests)

module _ (ws later : List Write) (key : Key) (after : IsTrue (list_all (λ w. nat_lt key.stamp w.key.stamp) later)) where
  moment_same : moment_of (ws ++ later) key ≡ moment_of ws key
  moment_same = ap (λ (vs : List Write). length vs) (filter_front (λ w. key_below w.key key) (λ w. nat_lt key.stamp w.key.stamp) ws later (not_below key) after)

  touched_same : (line : ℕ) (from : Key) (but : ℕ) → is_touched (ws ++ later) line from key but ≡ is_touched ws line from key but
  touched_same line from but =
      any_front _ (λ w. nat_lt key.stamp w.key.stamp) ws later
      (λ w is. ends_false (w.line == line) (not (w.key.hart == but)) (key_below from w.key) (key_below w.key key) (not_below key w is)) after

  live_same : (reserved : Option (ℕ × Key)) (line : ℕ) → is_live (ws ++ later) reserved line key ≡ is_live ws reserved line key
  live_same None line = refl
  live_same (Some made) line = rw (touched_same line made.1 key.hart) refl

  memory_same : (image : List ℕ) (k addr : ℕ) → k ≤ length ws → memory_at image (ws ++ later) k addr ≡ memory_at image ws k addr
  memory_same image k addr within = rw (take-append-le k ws later within) refl

  source_same : (k addr : ℕ) → k ≤ length ws → source_at (ws ++ later) k addr ≡ source_at ws k addr
  source_same k addr within = rw (take-append-le k ws later within) refl

  number_same : (image : List ℕ) (k width addr : ℕ) → k ≤ length ws → number_at image (ws ++ later) k width addr ≡ number_at image ws k width addr
  number_same image k zero addr within = refl
  number_same image k (suc width) addr within =
      ap (λ n. n + 256 * number_at image (ws ++ later) k width (addr + 1)) (memory_same image k addr within)
      ∙ ap (λ n. memory_at image ws k addr + 256 * n) (number_same image k width (addr + 1) within)

  origins_same : (k : ℕ) → k ≤ length ws → source_of (ws ++ later) k ≡ source_of ws k
  origins_same k within = λ i addr. origin_of_key (source_same k addr within i)

  -- a write with a smaller key is not a later one
  is_earlier : (w : Write) → Contains (ws ++ later) w → KeyBelow w.key key → Contains ws w
  is_earlier w there below = elim (Contains-append_cases ws later w there) [
    | inl here ↦ here
    | inr last ↦
        let above : IsTrue (nat_lt key.stamp w.key.stamp) = All-contains (λ v. nat_lt key.stamp v.key.stamp ≡ true) later w (AllPass-from_list_all (λ v. nat_lt key.stamp v.key.stamp) later after) last in
        let not_it = not_below key w above in
        let both : true ≡ false = sym below ∙ not_it in
        absurd (cc)
  ]

  wrote_more : (byte : ℕ) (known : Key) → WroteBefore ws key byte known → WroteBefore (ws ++ later) key byte known
  wrote_more byte known wrote = record {
    write = wrote.write;
    there = Contains-append_left ws later wrote.write wrote.there;
    is_its = wrote.is_its;
    own = wrote.own;
    before = wrote.before;
    covering = wrote.covering;
  }

  wrote_less : (byte : ℕ) (known : Key) → WroteBefore (ws ++ later) key byte known → WroteBefore ws key byte known
  wrote_less byte known wrote = record {
    write = wrote.write;
    there = is_earlier wrote.write wrote.there (subst (λ (k : Key). KeyBelow k key) (sym wrote.is_its) wrote.before);
    is_its = wrote.is_its;
    own = wrote.own;
    before = wrote.before;
    covering = wrote.covering;
  }

-- the checks of an atomic that finds this reservation and this old value
abbrev checked : AtomicGrounds → Key → AtomicAccess → Bool → ℕ → Result ⊤ Misfit
checked g key x live old =
    and_then (all_drained_check g.actions key x) (λ _.
    and_then (success_check live x) (λ _.
    and_then (value_check old x) (λ _.
    write_check old x)))

-- the sources of an atomic whose bytes come from these
abbrev sourced : AtomicAccess → (ℕ → Origin) → Sources
sourced x from =
    if reads x.op
    then record { count = x.width; from = map from (range_with_len x.paddr x.width) ++ replicate (8 - x.width) origin.Image }
    else record { count = 0; from = replicate 8 origin.Image }

module _ (g : AtomicGrounds) (later : List Write) (key : Key) (x : AtomicAccess)
    (after : IsTrue (list_all (λ w. nat_lt key.stamp w.key.stamp) later)) (alike : HadAlike g.writes later g.actions g.moments) where
  abbrev more : AtomicGrounds
  more = with_writes g (g.writes ++ later)

  abbrev moment : ℕ
  moment = moment_of g.writes key

  within : moment ≤ length g.writes
  within = filter-within (λ w. key_below w.key key) g.writes

  at_same : moment_of (g.writes ++ later) key ≡ moment
  at_same = moment_same g.writes later key after

  may_same : may_succeed more key x ≡ may_succeed g key x
  may_same = live_same g.writes later key after g.reserved (line_of x.paddr)

  old_same : old_value more key x ≡ old_value g key x
  old_same = ap (λ k. number_at g.image (g.writes ++ later) k x.width x.paddr) at_same ∙ number_same g.writes later key after g.image moment x.width x.paddr within

  check_same : access_check more key x ≡ access_check g key x
  check_same = ap (λ live. checked g key x live (old_value more key x)) may_same ∙ ap (checked g key x (may_succeed g key x)) old_same

  sources_same : sources_of (g.writes ++ later) (moment_of (g.writes ++ later) key) x ≡ sources_of g.writes moment x
  sources_same = ap (λ k. sources_of (g.writes ++ later) k x) at_same ∙ ap (sourced x) (origins_same g.writes later key after moment within)

  source_too : (addr : ℕ) → source_at (g.writes ++ later) (moment_of (g.writes ++ later) key) addr ≡ source_at g.writes moment addr
  source_too addr = ap (λ k. source_at (g.writes ++ later) k addr) at_same ∙ source_same g.writes later key after moment addr within

  known_more : (byte : ℕ) (known : Key) → IsKnownKey g.writes g.actions g.moments key byte known → IsKnownKey (g.writes ++ later) g.actions g.moments key byte known
  known_more byte known (inr wrote) = inr (wrote_more g.writes later key after byte known wrote)
  known_more byte known (inl had) = inl (record {
    place = had.place;
    action = had.action;
    there = had.there;
    had = alike had.place had.action had.there (take had.place g.actions) byte ∙ had.had;
  })

  known_less : (byte : ℕ) (known : Key) → IsKnownKey (g.writes ++ later) g.actions g.moments key byte known → IsKnownKey g.writes g.actions g.moments key byte known
  known_less byte known (inr wrote) = inr (wrote_less g.writes later key after byte known wrote)
  known_less byte known (inl had) = inl (record {
    place = had.place;
    action = had.action;
    there = had.there;
    had = sym (alike had.place had.action had.there (take had.place g.actions) byte) ∙ had.had;
  })

  newer_more : ReadsNewer g key x → ReadsNewer more key x
  newer_more is = record {
    reading = is.reading;
    place = is.place;
    within = is.within;
    source = is.source;
    from = source_too (x.paddr + is.place) ∙ is.from;
    newer = λ known knows. is.newer known (known_less (x.paddr + is.place) known knows);
  }

  newer_less : ReadsNewer more key x → ReadsNewer g key x
  newer_less is = record {
    reading = is.reading;
    place = is.place;
    within = is.within;
    source = is.source;
    from = sym (source_too (x.paddr + is.place)) ∙ is.from;
    newer = λ known knows. is.newer known (known_more (x.paddr + is.place) known knows);
  }

  letters_same : (l : Bool) → atomic_letters l (fails_alive more key x) ≡ atomic_letters l (fails_alive g key x)
  letters_same l = ap (λ live. atomic_letters l (has_failed x && live)) may_same

  passes_more : (passed : Passed) → AtomicPasses g key x passed → AtomicPasses more key x passed
  passes_more passed is = record {
    newer = (λ l. newer_more (is.newer.0 l), λ has. is.newer.1 (newer_less has));
    letters = is.letters ∙ sym (letters_same passed.letters.l);
    sources = is.sources ∙ sym sources_same;
  }

  passes_less : (passed : Passed) → AtomicPasses more key x passed → AtomicPasses g key x passed
  passes_less passed is = record {
    newer = (λ l. newer_less (is.newer.0 l), λ has. is.newer.1 (newer_more has));
    letters = is.letters ∙ letters_same passed.letters.l;
    sources = is.sources ∙ sources_same;
  }

  answer_more : (answer : Result Passed Misfit) → IsAtomicAnswer g key x answer → IsAtomicAnswer more key x answer
  answer_more (Ok passed) is = (check_same ∙ is.0, passes_more passed is.1)
  answer_more (Err refused) is = check_same ∙ is

  answer_less : (answer : Result Passed Misfit) → IsAtomicAnswer more key x answer → IsAtomicAnswer g key x answer
  answer_less (Ok passed) is = (sym check_same ∙ is.0, passes_less passed is.1)
  answer_less (Err refused) is = sym check_same ∙ is

  pub answers_alike : (answer : Result Passed Misfit) → IsAtomicAnswer g key x answer ↔ IsAtomicAnswer more key x answer
  answers_alike answer = (answer_more answer, answer_less answer)

pub first_writes_decide : FirstWritesDecideAtomics
first_writes_decide g later key x answer after alike = answers_alike g later key x after alike answer
