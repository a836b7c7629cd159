use Rattle.std.proofs.Common.{ℕ, ◌≡◌, ◌-◌, ◌<◌, ◌≤◌, Bool, true, false, not, List, [], ◌∷◌, length, get_or, take, None, zero, suc, refl, ap, ◌∙◌, arith}
use Rattle.std.specs.List.{list_all, list_any, find}
use Rattle.std.specs.Prelude.{reverse}
use Rattle.std.proofs.lemmas.Bool.{and_parts, and_from, cond-false, not-true, or_from}
use Rattle.std.proofs.lemmas.List.{get_or-reverse, length-reverse}
use Rattle.dt_lists.proofs.Lists.{list_all-at}

-- Tests of all elements of a list, place by place.

pub list_all-from : {X : Type 0} (p : X → Bool) (d : X) (xs : List X) → ((i : ℕ) → i < length xs → p (get_or xs i d) ≡ true) → list_all p xs ≡ true
list_all-from p d [] each = refl
list_all-from p d (x ∷ xs) each =
    and_from (p x) (list_all p xs) (each 0 (omega arith)) (list_all-from p d xs (λ i within. each (suc i) (omega arith)))

pub list_all-reverse : {X : Type 0} (p : X → Bool) (d : X) (xs : List X) → list_all p xs ≡ true → list_all p (reverse xs) ≡ true
list_all-reverse p d xs all = list_all-from p d (reverse xs) (λ i within.
    let inside : i < length xs = omega (arith, length-reverse xs) in
    ap p (get_or-reverse xs i d inside) ∙ list_all-at p xs (length xs - 1 - i) d all (omega arith))

pub list_any-none : {X : Type 0} (p : X → Bool) (xs : List X) → list_all (λ x. not (p x)) xs ≡ true → list_any p xs ≡ false
list_any-none p [] none = refl
list_any-none p (x ∷ xs) none =
    let parts = and_parts (not (p x)) _ none in
    or_from (p x) (list_any p xs) (not-true (p x) parts.0) (list_any-none p xs parts.1)

pub take-take : {X : Type 0} (j k : ℕ) (xs : List X) → j ≤ k → take j (take k xs) ≡ take j xs
take-take zero k xs below = refl
take-take (suc j) zero xs below = absurd (omega arith)
take-take (suc j) (suc k) [] below = refl
take-take (suc j) (suc k) (x ∷ xs) below = ap (λ ys. x ∷ ys) (take-take j k xs (omega arith))

pub find_none : {X : Type 0} (p : X → Bool) (xs : List X) → list_all (λ x. not (p x)) xs ≡ true → find p xs ≡ None
find_none p [] none = refl
find_none p (x ∷ xs) none =
    let parts = and_parts (not (p x)) _ none in
    cond-false (p x) _ (find p xs) (not-true (p x) parts.0) ∙ find_none p xs parts.1
