-- Lemmas on lists that several crates use. All of it is this project's own.
use Rattle.std.proofs.Common.{◌≡◌, ◌≤◌, ◌<◌, ◌⊎◌, ℕ, zero, suc, Bool, true, false, not, Option, Some, None, List, [], ◌∷◌, ◌++◌, length, get_or, take, drop, filter, refl, sym, ap, ◌∙◌, inl, inr, arith}
use Rattle.std.specs.Prelude.{find, reverse, slice_get, IsTrue, IsSomeAnd, ◌&&◌}
use Rattle.std.specs.List.{list_all, prefix_len}
use Rattle.std.specs.Option.{option_or}
use Rattle.std.proofs.lemmas.Bool.{and_parts, and_from, cases_Bool, cond-true, cond-false, not-true}
use Rattle.std.proofs.lemmas.List.{reverse-append}
use Rattle.std.proofs.lemmas.List.Folds.{list_all-append}

-- ---- the elements that pass a test

pub filter-kept : {X : Type 0} (p : X → Bool) (x : X) (xs : List X) → p x ≡ true → filter p (x ∷ xs) ≡ x ∷ filter p xs
filter-kept p x xs passes = cond-true (p x) (x ∷ filter p xs) (filter p xs) passes

pub filter-dropped : {X : Type 0} (p : X → Bool) (x : X) (xs : List X) → p x ≡ false → filter p (x ∷ xs) ≡ filter p xs
filter-dropped p x xs fails = cond-false (p x) (x ∷ filter p xs) (filter p xs) fails

pub filter-all : {X : Type 0} (p : X → Bool) (xs : List X) → list_all p xs ≡ true → filter p xs ≡ xs
filter-all p [] all = refl
filter-all p (x ∷ xs) all =
    let parts = and_parts (p x) (list_all p xs) all in
    filter-kept p x xs parts.0 ∙ ap (λ ys. x ∷ ys) (filter-all p xs parts.1)

pub filter-none : {X : Type 0} (p : X → Bool) (xs : List X) → list_all (λ x. not (p x)) xs ≡ true → filter p xs ≡ []
filter-none p [] none = refl
filter-none p (x ∷ xs) none =
    let parts = and_parts (not (p x)) (list_all (λ y. not (p y)) xs) none in
    filter-dropped p x xs (not-true (p x) parts.0) ∙ filter-none p xs parts.1

pub filter-within : {X : Type 0} (p : X → Bool) (xs : List X) → length (filter p xs) ≤ length xs
filter-within p [] = omega arith
filter-within p (x ∷ xs) =
    let rest = filter-within p xs in
    elim (cases_Bool (p x)) [
      | inl passes ↦ rw passes (omega arith)
      | inr stops ↦ rw stops (omega arith)
    ]

pub filter-filter : {X : Type 0} (p q : X → Bool) (xs : List X) → filter p (filter q xs) ≡ filter q (filter p xs)
filter-filter p q [] = refl
filter-filter p q (x ∷ xs) = elim (cases_Bool (p x)) [
  | inl kept ↦ elim (cases_Bool (q x)) [
    | inl passes ↦
        ap (filter p) (filter-kept q x xs passes)
        ∙ filter-kept p x (filter q xs) kept
        ∙ ap (λ l. x ∷ l) (filter-filter p q xs)
        ∙ sym (ap (filter q) (filter-kept p x xs kept) ∙ filter-kept q x (filter p xs) passes)
    | inr fails ↦
        ap (filter p) (filter-dropped q x xs fails)
        ∙ filter-filter p q xs
        ∙ sym (ap (filter q) (filter-kept p x xs kept) ∙ filter-dropped q x (filter p xs) fails)
  ]
  | inr dropped ↦ elim (cases_Bool (q x)) [
    | inl passes ↦
        ap (filter p) (filter-kept q x xs passes)
        ∙ filter-dropped p x (filter q xs) dropped
        ∙ filter-filter p q xs
        ∙ sym (ap (filter q) (filter-dropped p x xs dropped))
    | inr fails ↦ ap (filter p) (filter-dropped q x xs fails) ∙ filter-filter p q xs ∙ sym (ap (filter q) (filter-dropped p x xs dropped))
  ]
]

-- ---- all elements pass a test

pub list_all-weaker : {X : Type 0} (p q : X → Bool) (xs : List X) → ((x : X) → p x ≡ true → q x ≡ true)
    → list_all p xs ≡ true → list_all q xs ≡ true
list_all-weaker p q [] weaker all = refl
list_all-weaker p q (x ∷ xs) weaker all =
    let parts = and_parts (p x) (list_all p xs) all in
    and_from (q x) (list_all q xs) (weaker x parts.0) (list_all-weaker p q xs weaker parts.1)

pub list_all-filter : {X : Type 0} (p q : X → Bool) (xs : List X) → list_all p xs ≡ true → list_all p (filter q xs) ≡ true
list_all-filter p q [] all = refl
list_all-filter p q (x ∷ xs) all =
    let parts = and_parts (p x) (list_all p xs) all in
    let rest = list_all-filter p q xs parts.1 in
    elim (cases_Bool (q x)) [
      | inl passes ↦ ap (list_all p) (filter-kept q x xs passes) ∙ and_from (p x) (list_all p (filter q xs)) parts.0 rest
      | inr fails ↦ ap (list_all p) (filter-dropped q x xs fails) ∙ rest
    ]

pub list_all-reverse : {X : Type 0} (p : X → Bool) (xs : List X) → list_all p xs ≡ true → list_all p (reverse xs) ≡ true
list_all-reverse p [] all = refl
list_all-reverse p (x ∷ xs) all =
    let parts = and_parts (p x) (list_all p xs) all in
    ap (list_all p) (reverse-append (x ∷ []) xs)
    ∙ list_all-append p (reverse xs) (x ∷ [])
    ∙ and_from (list_all p (reverse xs)) (p x && true) (list_all-reverse p xs parts.1) (and_from (p x) true parts.0 refl)

pub list_all-drop : {X : Type 0} (p : X → Bool) (n : ℕ) (xs : List X) → list_all p xs ≡ true → list_all p (drop n xs) ≡ true
list_all-drop p zero xs all = all
list_all-drop p (suc n) [] all = refl
list_all-drop p (suc n) (x ∷ xs) all = list_all-drop p n xs (and_parts (p x) (list_all p xs) all).1

pub list_all-later : {X : Type 0} (p : X → Bool) (j k : ℕ) (xs : List X) → j ≤ k
    → IsTrue (list_all p (drop j xs)) → IsTrue (list_all p (drop k xs))
list_all-later p zero zero xs rises all = all
list_all-later p zero (suc k) [] rises all = refl
list_all-later p zero (suc k) (x ∷ xs) rises all = list_all-later p zero k xs (omega arith) (and_parts (p x) (list_all p xs) all).1
list_all-later p (suc j) zero xs rises all = absurd (omega arith)
list_all-later p (suc j) (suc k) [] rises all = refl
list_all-later p (suc j) (suc k) (x ∷ xs) rises all = list_all-later p j k xs (omega arith) all

pub list_all-at : {X : Type 0} (p : X → Bool) (xs : List X) (i : ℕ) (d : X) → list_all p xs ≡ true → i < length xs → p (get_or xs i d) ≡ true
list_all-at p [] i d all within = absurd (omega arith)
list_all-at p (x ∷ xs) zero d all within = (and_parts (p x) (list_all p xs) all).0
list_all-at p (x ∷ xs) (suc i) d all within = list_all-at p xs i d (and_parts (p x) (list_all p xs) all).1 (omega arith)

pub list_all-get : {X : Type 0} (p : X → Bool) (xs : List X) (i : ℕ) (x : X) → list_all p xs ≡ true → slice_get xs i ≡ Some x → p x ≡ true
list_all-get p [] i x all is = absurd (cc is)
list_all-get p (y ∷ ys) zero x all is = let same : y ≡ x = cc is in ap p (sym same) ∙ (and_parts (p y) (list_all p ys) all).0
list_all-get p (y ∷ ys) (suc i) x all is = list_all-get p ys i x (and_parts (p y) (list_all p ys) all).1 is

pub within_prefix : {X : Type 0} (p : X → Bool) (k : ℕ) (xs : List X) → k ≤ length xs → IsTrue (list_all p (take k xs)) → k ≤ prefix_len p xs
within_prefix p zero xs within all = omega arith
within_prefix p (suc k) [] within all = absurd (omega arith)
within_prefix p (suc k) (x ∷ xs) within all =
    let parts = and_parts (p x) (list_all p (take k xs)) all in
    let passes : p x ≡ true = parts.0 in
    let rest : k ≤ prefix_len p xs = within_prefix p k xs (omega arith) parts.1 in
    rw passes (omega arith)

-- what is found by one test passes another that all pass
pub found_passes : {X : Type 0} (p q : X → Bool) (xs : List X) (x : X) → find p xs ≡ Some x → list_all q xs ≡ true → q x ≡ true
found_passes p q [] x found all = cc
found_passes p q (y ∷ ys) x found all =
    let parts = and_parts (q y) (list_all q ys) all in
    elim (cases_Bool (p y)) [
      | inl here ↦
          let same : y ≡ x = let e = sym (cond-true (p y) (Some y) (find p ys) here) ∙ found in cc in
          ap q (sym same) ∙ parts.0
      | inr past ↦ found_passes p q ys x (sym (cond-false (p y) (Some y) (find p ys) past) ∙ found) parts.1
    ]

-- ---- the element at a place

pub slice_get-append_left : {X : Type 0} (xs ys : List X) (i : ℕ) → i < length xs → slice_get (xs ++ ys) i ≡ slice_get xs i
slice_get-append_left [] ys i within = absurd (omega arith)
slice_get-append_left (x ∷ xs) ys zero within = refl
slice_get-append_left (x ∷ xs) ys (suc i) within = slice_get-append_left xs ys i (omega arith)

pub slice_get-append_seam : {X : Type 0} (xs : List X) (y : X) (ys : List X) → slice_get (xs ++ y ∷ ys) (length xs) ≡ Some y
slice_get-append_seam [] y ys = refl
slice_get-append_seam (x ∷ xs) y ys = slice_get-append_seam xs y ys

pub slice_get-end : {X : Type 0} (xs : List X) (x : X) → slice_get (xs ++ x ∷ []) (length xs) ≡ Some x
slice_get-end xs x = slice_get-append_seam xs x []

pub slice_get-take : {X : Type 0} (n : ℕ) (xs : List X) (i : ℕ) (x : X) → slice_get (take n xs) i ≡ Some x → slice_get xs i ≡ Some x
slice_get-take zero xs i x is = absurd (cc is)
slice_get-take (suc n) [] i x is = absurd (cc is)
slice_get-take (suc n) (y ∷ ys) zero x is = is
slice_get-take (suc n) (y ∷ ys) (suc i) x is = slice_get-take n ys i x is

pub slice_get-past : {X : Type 0} (xs : List X) (i : ℕ) → slice_get xs i ≡ None → length xs ≤ i
slice_get-past [] i none = omega arith
slice_get-past (x ∷ xs) zero none = absurd (let never : ⊥ = cc in never)
slice_get-past (x ∷ xs) (suc i) none = let rest = slice_get-past xs i none in omega arith

same_Some : {X : Type 0} (x y : X) → Some x ≡ Some y → x ≡ y
same_Some x y same = cc

pub slice_get-push : {X : Type 0} (xs : List X) (x : X) (n : ℕ) (y : X) → slice_get (xs ++ x ∷ []) n ≡ Some y
    → (slice_get xs n ≡ Some y) ⊎ ((n ≡ length xs) × (x ≡ y))
slice_get-push [] x zero y there = inr (refl, same_Some x y there)
slice_get-push [] x (suc n) y there = absurd (cc)
slice_get-push (z ∷ zs) x zero y there = inl there
slice_get-push (z ∷ zs) x (suc n) y there = elim (slice_get-push zs x n y there) [
  | inl before ↦ inl before
  | inr now ↦ inr (omega (arith, now.0), now.1)
]

-- ---- the rest

pub not_last : {X : Type 0} (bs after : List X) (y : X) → [] ≡ bs ++ y ∷ after → ⊥
not_last [] after y e = cc
not_last (b ∷ bs) after y e = cc

pub option_or-none : {X : Type 0} (o : Option X) → option_or o None ≡ o
option_or-none None = refl
option_or-none (Some x) = refl

-- what a fact of an optional value says: there is one, and the fact holds of it
pub some_and : {A : Type 0} (o : Option A) (P : A → Type 0) → IsSomeAnd o P → (x : A) × (o ≡ Some x) × P x
some_and None P h = absurd h
some_and (Some x) P h = (x, refl, h)
