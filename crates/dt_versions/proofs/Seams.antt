use Rattle.std.proofs.Common.{ℕ, ◌≡◌, ◌+◌, ◌-◌, ◌<◌, ◌≤◌, Bool, true, not, List, length, get_or, take, drop, sym, ap, ◌∙◌, inl, inr, arith}
use Rattle.std.specs.List.{list_all, prefix_len, suffix_len}
use Rattle.std.specs.Prelude.{reverse}
use Rattle.std.proofs.lemmas.Bool.{cases_lt, not-false, not-true, both_ways}
use Rattle.std.proofs.lemmas.List.{get_or-reverse, get_or-take, get_or-drop, length-take, length-drop, length-reverse}
use Rattle.std.proofs.lemmas.List.Sums.{prefix_len_passes, prefix_len_stops}
use Rattle.dt_lists.proofs.Lists.{list_all-at}
use Rattle.dt_versions.proofs.Places.{list_all-from}

-- A list whose elements of one kind, the first, all stand before those of another, the last. The
-- places that split them lie between two ends.

-- no last element stands at a first one or before it
pub record AreApart {X : Type 0} (first last : X → Bool) (xs : List X) : Type 0 where
  pub apart : (i j : ℕ) (d : X) → i ≤ j → j < length xs → last (get_or xs i d) ≡ true → first (get_or xs j d) ≡ true → ⊥

abbrev pub low_end : {X : Type 0} → (X → Bool) → List X → ℕ
low_end first xs = length xs - suffix_len (λ x. not (first x)) xs

abbrev pub high_end : {X : Type 0} → (X → Bool) → List X → ℕ
high_end last xs = prefix_len (λ x. not (last x)) xs

pub past_low : {X : Type 0} (first : X → Bool) (xs : List X) (d : X) (i : ℕ) → low_end first xs ≤ i → i < length xs → not (first (get_or xs i d)) ≡ true
past_low first xs d i above within =
    let passes = prefix_len_passes (λ x. not (first x)) (reverse xs) (length xs - 1 - i) d (omega arith) in
    let place : length xs - 1 - (length xs - 1 - i) ≡ i = omega arith in
    ap (λ k. not (first (get_or xs k d))) (sym place)
    ∙ ap (λ x. not (first x)) (sym (get_or-reverse xs (length xs - 1 - i) d (omega arith))) ∙ passes

pub at_low : {X : Type 0} (first : X → Bool) (xs : List X) (d : X) → 0 < low_end first xs → first (get_or xs (low_end first xs - 1) d) ≡ true
at_low first xs d some =
    let s = suffix_len (λ x. not (first x)) xs in
    let stops = prefix_len_stops (λ x. not (first x)) (reverse xs) d (omega (arith, length-reverse xs)) in
    let place : length xs - 1 - s ≡ low_end first xs - 1 = omega arith in
    ap (λ k. first (get_or xs k d)) (sym place)
    ∙ ap first (sym (get_or-reverse xs s d (omega arith))) ∙ not-false _ stops

pub before_high : {X : Type 0} (last : X → Bool) (xs : List X) (d : X) (i : ℕ) → i < high_end last xs → not (last (get_or xs i d)) ≡ true
before_high last xs d i below = prefix_len_passes (λ x. not (last x)) xs i d below

at_high : {X : Type 0} (last : X → Bool) (xs : List X) (d : X) → high_end last xs < length xs → last (get_or xs (high_end last xs) d) ≡ true
at_high last xs d within = not-false _ (prefix_len_stops (λ x. not (last x)) xs d within)

pub low-le-high : {X : Type 0} (first last : X → Bool) (xs : List X) (d : X) → AreApart first last xs → low_end first xs ≤ high_end last xs
low-le-high first last xs d apart = elim (cases_lt (high_end last xs) (low_end first xs)) [
  | inl above ↦
      absurd (apart.apart (high_end last xs) (low_end first xs - 1) d (omega arith) (omega arith)
      (at_high last xs d (omega arith)) (at_low first xs d (omega arith)))
  | inr below ↦ below
]

-- what stands before a place between the ends is not of the last kind, and what stands after it not of the first
pub seen_between : {X : Type 0} (first last : X → Bool) (xs : List X) (d : X) (k : ℕ) → k ≤ high_end last xs → list_all (λ x. not (last x)) (take k xs) ≡ true
seen_between first last xs d k below =
    list_all-from (λ x. not (last x)) d (take k xs) (λ i within.
    let inside : i < k = omega (arith, length-take k xs) in
    ap (λ x. not (last x)) (get_or-take k xs i d inside) ∙ before_high last xs d i (omega arith))

pub unseen_between : {X : Type 0} (first : X → Bool) (xs : List X) (d : X) (k : ℕ) → low_end first xs ≤ k → list_all (λ x. not (first x)) (drop k xs) ≡ true
unseen_between first xs d k above =
    list_all-from (λ x. not (first x)) d (drop k xs) (λ i within.
    ap (λ x. not (first x)) (get_or-drop k xs i d) ∙ past_low first xs d (k + i) (omega arith) (omega (arith, length-drop k xs)))

-- and only places between the ends split the list so
pub low-le-place : {X : Type 0} (first : X → Bool) (xs : List X) (d : X) (k : ℕ) → list_all (λ x. not (first x)) (drop k xs) ≡ true → low_end first xs ≤ k
low-le-place first xs d k rest = elim (cases_lt k (low_end first xs)) [
  | inl below ↦
      let i = low_end first xs - 1 - k in
      let place : k + i ≡ low_end first xs - 1 = omega arith in
      let none = list_all-at (λ x. not (first x)) (drop k xs) i d rest (omega (arith, length-drop k xs)) in
      let here = ap (λ j. first (get_or xs j d)) place ∙ at_low first xs d (omega arith) in
      absurd (both_ways (first (get_or xs (k + i) d)) (not-true _ (ap (λ x. not (first x)) (sym (get_or-drop k xs i d)) ∙ none)) here)
  | inr above ↦ above
]

pub place-le-high : {X : Type 0} (last : X → Bool) (xs : List X) (d : X) (k : ℕ) → k ≤ length xs → list_all (λ x. not (last x)) (take k xs) ≡ true → k ≤ high_end last xs
place-le-high last xs d k within front = elim (cases_lt (high_end last xs) k) [
  | inl above ↦
      let i = high_end last xs in
      let none = list_all-at (λ x. not (last x)) (take k xs) i d front (omega (arith, length-take k xs)) in
      absurd (both_ways (last (get_or xs i d)) (not-true _ (ap (λ x. not (last x)) (sym (get_or-take k xs i d (omega arith))) ∙ none)) (at_high last xs d (omega arith)))
  | inr below ↦ below
]
