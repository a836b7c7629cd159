use Rattle.std.proofs.Common.{ℕ, ◌≡◌, ◌<◌, ◌⊎◌, Bool, true, Option, None, Some, option_map, List, [], ◌∷◌, ◌++◌, filter, length, take, zero, suc, refl, sym, ap, ◌∙◌, inl, inr, arith}
use Rattle.std.specs.Prelude.{Contains}
use Rattle.std.specs.List.{list_all, list_any, slice_get}
use Rattle.std.proofs.lemmas.Bool.{cases_Bool, and_from, or_right}

-- Elements by their places.

-- an element of a list and one more is one of the list, or it
pub before_or_last : {X : Type 0} (xs : List X) (y : X) (i : ℕ) (x : X) → slice_get (xs ++ y ∷ []) i ≡ Some x → (slice_get xs i ≡ Some x) ⊎ (y ≡ x)
before_or_last [] y zero x is = inr (cc is)
before_or_last [] y (suc i) x is = absurd (cc is)
before_or_last (z ∷ xs) y zero x is = inl is
before_or_last (z ∷ xs) y (suc i) x is = before_or_last xs y i x is

-- an element that passes a test stands among those that do, behind those before it
pub passing_place : {X : Type 0} (p : X → Bool) (xs : List X) (i : ℕ) (x : X) → slice_get xs i ≡ Some x → p x ≡ true
    → slice_get (filter p xs) (length (filter p (take i xs))) ≡ Some x
passing_place p [] i x is passes = absurd (cc is)
passing_place p (y ∷ ys) zero x is passes =
    let same : y ≡ x = cc is in
    let first : p y ≡ true = ap p same ∙ passes in
    rw first is
passing_place p (y ∷ ys) (suc i) x is passes =
    let later = passing_place p ys i x is passes in
    elim (cases_Bool (p y)) [
      | inl first ↦ rw first later
      | inr not_first ↦ rw not_first later
    ]

-- an element of the front of a list
pub front_place : {X : Type 0} (n : ℕ) (xs : List X) (i : ℕ) (x : X) → i < n → slice_get xs i ≡ Some x → slice_get (take n xs) i ≡ Some x
front_place zero xs i x within is = absurd (omega arith)
front_place (suc n) [] i x within is = absurd (cc is)
front_place (suc n) (y ∷ ys) zero x within is = is
front_place (suc n) (y ∷ ys) (suc i) x within is = front_place n ys i x (omega arith) is

-- what is mapped
pub mapped_from : {X Y : Type 0} (f : X → Y) (o : Option X) (y : Y) → option_map f o ≡ Some y → (x : X) × (o ≡ Some x) × (f x ≡ y)
mapped_from f None y is = absurd (cc is)
mapped_from f (Some x) y is = (x, refl, cc is)

-- an element that passes a test
pub any_passes : {X : Type 0} (p : X → Bool) (xs : List X) (i : ℕ) (x : X) → slice_get xs i ≡ Some x → p x ≡ true → list_any p xs ≡ true
any_passes p [] i x is passes = absurd (cc is)
any_passes p (y ∷ ys) zero x is passes = let same : y ≡ x = cc is in let first : p y ≡ true = ap p same ∙ passes in rw first refl
any_passes p (y ∷ ys) (suc i) x is passes = or_right (p y) (list_any p ys) (any_passes p ys i x is passes)

-- and what stands there passes it
passes_first : {X : Type 0} (p : X → Bool) (y : X) (rest : List X) (i : ℕ) (x : X) → p y ≡ true → slice_get (y ∷ rest) i ≡ Some x
    → ((j : ℕ) → slice_get rest j ≡ Some x → p x ≡ true) → p x ≡ true
passes_first p y rest zero x first here later = let same : y ≡ x = cc here in ap p (sym same) ∙ first
passes_first p y rest (suc i) x first there later = later i there

pub passes_there : {X : Type 0} (p : X → Bool) (xs : List X) (i : ℕ) (x : X) → slice_get (filter p xs) i ≡ Some x → p x ≡ true
passes_there p [] i x is = absurd (cc is)
passes_there p (y ∷ ys) i x is = elim (cases_Bool (p y)) [
  | inl first ↦ passes_first p y (filter p ys) i x first (rw first at is) (λ j there. passes_there p ys j x there)
  | inr not_first ↦ passes_there p ys i x (rw not_first at is)
]

-- a test that each element passes
pub all_pass : {X : Type 0} (p : X → Bool) (xs : List X) → ((x : X) → Contains xs x → p x ≡ true) → list_all p xs ≡ true
all_pass p [] each = refl
all_pass p (y ∷ ys) each =
    and_from (p y) (list_all p ys) (each y (0, omega arith, refl)) (all_pass p ys (λ x among. each x (suc among.0, omega (arith, among.1), among.2)))
