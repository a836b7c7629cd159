use Rattle.std.proofs.Common.{ℕ, ◌≡◌, ◌⊎◌, Bool, Option, Some, None, List, [], ◌∷◌, zero, suc, refl, sym, ap, ◌∙◌, inl, inr, IsTrue, arith}
use Rattle.std.specs.List.{Contains, filter, list_all, slice_get}
use Rattle.std.specs.Option.{option_to_list}
use Rattle.std.proofs.lemmas.Bool.{and_parts, cases_Bool}

-- Elements of lists.

pub cons_cases : {X : Type 0} (y : X) (ys : List X) (x : X) → Contains (y ∷ ys) x → (y ≡ x) ⊎ Contains ys x
cons_cases y ys x (zero, within, is) = inl is
cons_cases y ys x (suc k, within, is) = inr (k, omega arith, is)

pub cons_first : {X : Type 0} (x : X) (xs : List X) → Contains (x ∷ xs) x
cons_first x xs = (0, omega arith, refl)

pub cons_later : {X : Type 0} (y : X) (ys : List X) (x : X) → Contains ys x → Contains (y ∷ ys) x
cons_later y ys x (k, within, is) = (suc k, omega arith, is)

pub no_element : {X : Type 0} (x : X) → Contains [] x → ⊥
no_element x (k, within, is) = omega arith

pub Contains-filter : {X : Type 0} (p : X → Bool) (xs : List X) (x : X) → Contains xs x → IsTrue (p x) → Contains (filter p xs) x
Contains-filter p [] x there passes = there
Contains-filter p (y ∷ ys) x there passes = elim (cons_cases y ys x there) [
  | inl here ↦ grind (arith, cons_first x (filter p ys))
  | inr later ↦ elim (cases_Bool (p y)) [
    | inl kept ↦ rw kept (cons_later y (filter p ys) x (Contains-filter p ys x later passes))
    | inr dropped ↦ rw dropped (Contains-filter p ys x later passes)
  ]
]

pub Contains-from_filter : {X : Type 0} (p : X → Bool) (xs : List X) (x : X) → Contains (filter p xs) x → Contains xs x
Contains-from_filter p [] x there = there
Contains-from_filter p (y ∷ ys) x there = elim (cases_Bool (p y)) [
  | inl kept ↦ elim (cons_cases y (filter p ys) x (rw kept at there)) [
    | inl here ↦ grind (arith, cons_first x ys)
    | inr later ↦ cons_later y ys x (Contains-from_filter p ys x later)
  ]
  | inr dropped ↦ cons_later y ys x (Contains-from_filter p ys x (rw dropped at there))
]

pub Contains-option : {X : Type 0} (o : Option X) (x : X) → Contains (option_to_list o) x → o ≡ Some x
Contains-option None x there = absurd (no_element x there)
Contains-option (Some y) x there = elim (cons_cases y [] x there) [
  | inl here ↦ ap Some here
  | inr later ↦ absurd (no_element x later)
]

pub option_contains : {X : Type 0} (o : Option X) (x : X) → o ≡ Some x → Contains (option_to_list o) x
option_contains None x is = absurd (cc)
option_contains (Some y) x is = grind (arith, cons_first x [])

pub list_all-at : {X : Type 0} (p : X → Bool) (xs : List X) (i : ℕ) (x : X) → IsTrue (list_all p xs) → slice_get xs i ≡ Some x → IsTrue (p x)
list_all-at p [] i x all there = absurd (cc)
list_all-at p (y ∷ ys) zero x all there =
    let here : y ≡ x = cc in
    ap p (sym here) ∙ (and_parts (p y) (list_all p ys) all).0
list_all-at p (y ∷ ys) (suc i) x all there = list_all-at p ys i x (and_parts (p y) (list_all p ys) all).1 there
