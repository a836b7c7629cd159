use Rattle.std.proofs.Common.{ℕ, ◌≡◌, ◌+◌, ◌-◌, ◌<◌, ◌≤◌, ◌==◌, ◌&&◌, Bool, true, false, not, IsTrue, List, length, get_or, take, drop, zero, suc, [], ◌∷◌, refl, sym, ap, ◌∙◌, subst, inl, inr, arith}
use Rattle.std.specs.List.{list_any}
use Rattle.std.specs.List.Sorted.{IsNonDecreasingBy, IsPartitionPoint, IsPartitionedBy}
use Rattle.std.proofs.lemmas.Bool.{and_from, and_left, and_right, both_ways, cases_Bool, cases_lt, false_from_ne_true, not-true, not_from_false, or_cases, or_left, or_right}
use Rattle.std.proofs.lemmas.List.{get_or-drop, get_or-take, length-drop, length-take}
use Rattle.std.proofs.lemmas.List.Sums.{prefix_len-le-length}
use Rattle.dt_record.specs.declared.keys.Key.{Key}
use Rattle.dt_record.specs.declared.writes.Write.{Write}
use Rattle.dt_record.specs.Keys.{key_below, KeyBelow}
use Rattle.dt_record.proofs.KeyLaws.{KeyBelow-chain, KeyBelow-stamps}
use Rattle.dt_record.specs.Memory.{is_touched}
use Rattle.dt_versions.specs.History.{are_in_order}
use Rattle.dt_versions.proofs.Orders.{KeyBelow-places, no_write}
use Rattle.dt_versions.proofs.Places.{list_all-from, list_any-none}
use Rattle.dt_versions.proofs.Seams.{high_end, low_end, before_high, low-le-place, past_low, place-le-high}

-- Searches by halving, over writes in the order of their keys.

-- a test that a write passes where a later one does
pub record IsClosedBy (p : Write → Bool) : Type 0 where
  pub closed : (v w : Write) → KeyBelow v.key w.key → p w ≡ true → p v ≡ true

pub IsPartitionedBy-closed : (p : Write → Bool) (writes : List Write) → IsTrue (are_in_order writes) → IsClosedBy p → IsPartitionedBy p writes
IsPartitionedBy-closed p writes ordered is = λ i j d before within passes. elim (cases_lt i j) [
  | inl apart ↦ is.closed (get_or writes i d) (get_or writes j d) (KeyBelow-places writes i j d ordered apart within) passes
  | inr same ↦ let e : j ≡ i = omega arith in subst (λ k. p (get_or writes k d) ≡ true) e passes
]

pub closed-before : (key : Key) → IsClosedBy (λ w. key_below w.key key)
closed-before key = record { closed = λ v w below passes. KeyBelow-chain v.key w.key key below passes }

pub closed-not_after : (key : Key) → IsClosedBy (λ w. not (key_below key w.key))
closed-not_after key = record {
  closed = λ v w below passes. not_from_false _ (false_from_ne_true _ (λ after. both_ways _ (not-true _ passes) (KeyBelow-chain key v.key w.key after below)));
}

pub stamps_rise : (writes : List Write) → IsTrue (are_in_order writes) → IsNonDecreasingBy (λ w. w.key.stamp) writes
stamps_rise writes ordered i j d before within = elim (cases_lt i j) [
  | inl apart ↦ KeyBelow-stamps (get_or writes i d).key (get_or writes j d).key (KeyBelow-places writes i j d ordered apart within)
  | inr same ↦ let e : i ≡ j = omega arith in omega (arith, ap (λ k. (get_or writes k d).key.stamp) e)
]

-- the ends by what stands on either side
pub low_end-is : {X : Type 0} (first : X → Bool) (xs : List X) (d : X) (k : ℕ) → k ≤ length xs → (0 < k → first (get_or xs (k - 1) d) ≡ true)
    → ((i : ℕ) → k ≤ i → i < length xs → first (get_or xs i d) ≡ false) → low_end first xs ≡ k
low_end-is first xs d k within last past =
    let below : low_end first xs ≤ k = low-le-place first xs d k (list_all-from (λ x. not (first x)) d (drop k xs) (λ i inside.
    ap (λ x. not (first x)) (get_or-drop k xs i d) ∙ not_from_false _ (past (k + i) (omega arith) (omega (arith, length-drop k xs))))) in
    elim (cases_lt (low_end first xs) k) [
      | inl short ↦ absurd (both_ways _ (not-true _ (past_low first xs d (k - 1) (omega arith) (omega arith))) (last (omega arith)))
      | inr same ↦ omega arith
    ]

pub high_end-is : {X : Type 0} (last : X → Bool) (xs : List X) (d : X) (k : ℕ) → k ≤ length xs → ((i : ℕ) → i < k → last (get_or xs i d) ≡ false)
    → (k < length xs → last (get_or xs k d) ≡ true) → high_end last xs ≡ k
high_end-is last xs d k within before here =
    let above : k ≤ high_end last xs = place-le-high last xs d k within (list_all-from (λ x. not (last x)) d (take k xs) (λ i inside.
    let front : i < k = omega (arith, length-take k xs) in
    ap (λ x. not (last x)) (get_or-take k xs i d front) ∙ not_from_false _ (before i front))) in
    elim (cases_lt k (high_end last xs)) [
      | inl long ↦ absurd (both_ways _ (not-true _ (before_high last xs d k long)) (here (omega (arith, prefix_len-le-length (λ x. not (last x)) xs))))
      | inr same ↦ omega arith
    ]

-- what a test says of a part, where it fails outside
list_any-found : {X : Type 0} (p : X → Bool) (xs : List X) (d : X) → list_any p xs ≡ true → (i : ℕ) × (i < length xs) × (p (get_or xs i d) ≡ true)
list_any-found p [] d found = absurd (both_ways false refl found)
list_any-found p (x ∷ xs) d found = elim (or_cases (p x) (list_any p xs) found) [
  | inl here ↦ (0, omega arith, here)
  | inr later ↦ let rest = list_any-found p xs d later in (suc rest.0, omega (arith, rest.1), rest.2)
]

list_any-some : {X : Type 0} (p : X → Bool) (xs : List X) (i : ℕ) (d : X) → i < length xs → p (get_or xs i d) ≡ true → list_any p xs ≡ true
list_any-some p [] i d within passes = absurd (omega arith)
list_any-some p (x ∷ xs) zero d within passes = or_left (p x) (list_any p xs) passes
list_any-some p (x ∷ xs) (suc i) d within passes = or_right (p x) (list_any p xs) (list_any-some p xs i d (omega arith) passes)

pub list_any-nowhere : {X : Type 0} (p : X → Bool) (xs : List X) (d : X) → ((i : ℕ) → i < length xs → p (get_or xs i d) ≡ false) → list_any p xs ≡ false
list_any-nowhere p xs d fails = list_any-none p xs (list_all-from (λ x. not (p x)) d xs (λ i within. not_from_false _ (fails i within)))

pub list_any-part : {X : Type 0} (p q : X → Bool) (xs : List X) (d : X) (low high : ℕ) → low ≤ high → high ≤ length xs
    → ((i : ℕ) → i < low → p (get_or xs i d) ≡ false) → ((i : ℕ) → high ≤ i → i < length xs → p (get_or xs i d) ≡ false)
    → ((i : ℕ) → low ≤ i → i < high → p (get_or xs i d) ≡ q (get_or xs i d)) → list_any q (take (high - low) (drop low xs)) ≡ list_any p xs
list_any-part p q xs d low high ends within before after alike =
    let part = take (high - low) (drop low xs) in
    let size : length part ≡ high - low = omega (arith, length-take (high - low) (drop low xs), length-drop low xs) in
    let at : (i : ℕ) → i < high - low → get_or part i d ≡ get_or xs (low + i) d = λ i below. get_or-take (high - low) (drop low xs) i d below ∙ get_or-drop low xs i d in
    elim (cases_Bool (list_any q part)) [
      | inl found ↦
          let some = list_any-found q part d found in
          let place : some.0 < high - low = omega (arith, some.1) in
          found ∙ sym (list_any-some p xs (low + some.0) d (omega arith) (alike (low + some.0) (omega arith) (omega arith) ∙ ap q (sym (at some.0 place)) ∙ some.2))
      | inr none ↦ none ∙ sym (list_any-nowhere p xs d (λ i inside. elim (cases_lt i low) [
        | inl early ↦ before i early
        | inr from ↦ elim (cases_lt i high) [
          | inl here ↦
              let same : low + (i - low) ≡ i = omega arith in
              alike i from here ∙ ap (λ k. q (get_or xs k d)) (sym same) ∙ ap q (sym (at (i - low) (omega arith)))
              ∙ false_from_ne_true _ (λ passes. both_ways _ none (list_any-some q part (i - low) d (omega arith) passes))
          | inr late ↦ after i late inside
        ]
      ]))
    ]

and-true : (b : Bool) → (b && true) ≡ b
and-true true = refl
and-true false = refl

-- a line is touched where a write of another hart stands in the part between the keys
touches : (line : ℕ) (from to : Key) (but : ℕ) → Write → Bool
touches line from to but w = (w.line == line) && (not (w.key.hart == but) && (key_below from w.key && key_below w.key to))

pub untouched : (writes : List Write) (line : ℕ) (from to : Key) (but start end : ℕ) → end ≤ start
    → IsPartitionPoint (λ w. key_below from w.key ≡ false) (λ w. key_below from w.key ≡ true) writes start
    → IsPartitionPoint (λ w. key_below w.key to ≡ true) (λ w. key_below w.key to ≡ false) writes end
    → false ≡ is_touched writes line from to but
unfolding touches
untouched writes line from to but start end past reached earlier = sym (list_any-nowhere (touches line from to but) writes no_write (λ i inside.
    let w = get_or writes i no_write in
    and_right (w.line == line) _ (and_right (not (w.key.hart == but)) _ (elim (cases_lt i start) [
      | inl before ↦ and_left (key_below from w.key) _ (reached.0 i no_write (omega arith) before)
      | inr after ↦ and_right (key_below from w.key) _ (earlier.1 i no_write (omega arith) inside)
    ]))))

pub touched-between : (writes : List Write) (line : ℕ) (from to : Key) (but start end : ℕ) → start ≤ end → end ≤ length writes
    → IsPartitionPoint (λ w. key_below from w.key ≡ false) (λ w. key_below from w.key ≡ true) writes start
    → IsPartitionPoint (λ w. key_below w.key to ≡ true) (λ w. key_below w.key to ≡ false) writes end
    → list_any (λ w. (w.line == line) && not (w.key.hart == but)) (take (end - start) (drop start writes)) ≡ is_touched writes line from to but
unfolding touches
touched-between writes line from to but start end ends within reached earlier =
    list_any-part (touches line from to but) (λ w. (w.line == line) && not (w.key.hart == but)) writes no_write start end ends within
    (λ i before. let w = get_or writes i no_write in
    and_right (w.line == line) _ (and_right (not (w.key.hart == but)) _ (and_left (key_below from w.key) _ (reached.0 i no_write (omega arith) before))))
    (λ i after inside. let w = get_or writes i no_write in
    and_right (w.line == line) _ (and_right (not (w.key.hart == but)) _ (and_right (key_below from w.key) _ (earlier.1 i no_write after inside))))
    (λ i after before. let w = get_or writes i no_write in
    ap (λ b. (w.line == line) && (not (w.key.hart == but) && b)) (and_from _ _ (reached.1 i no_write after (omega arith)) (earlier.0 i no_write (omega arith) before))
    ∙ ap (λ b. (w.line == line) && b) (and-true (not (w.key.hart == but))))
