use Rattle.std.proofs.Common.{◌≡◌, ℕ, ◌+◌, ◌<◌, ◌&&◌, Bool, true, Some, List, [], ◌∷◌, ◌++◌, length, filter, find, reverse, take, drop, map, set, get_or, refl, sym, ap, ◌∙◌, arith, inl, inr, zero, suc}
use Rattle.std.proofs.lemmas.List.{append-nil, reverse-append}
use Rattle.std.proofs.lemmas.List.Elements.{filter-append}
use Rattle.std.proofs.lemmas.Bool.{cases_Bool}

-- Facts about searches in lists, whatever the elements are.

pub filter-reverse : {X : Type 0} (p : X → Bool) (xs : List X) → filter p (reverse xs) ≡ reverse (filter p xs)
filter-reverse p [] = refl
filter-reverse {X} p (x ∷ xs) =
    let last : filter p (reverse (x ∷ xs)) ≡ reverse (filter p xs) ++ filter p (x ∷ []) =
    ap (filter p) (reverse-append (x ∷ []) xs) ∙ filter-append p (reverse xs) (x ∷ []) ∙ ap (λ l. l ++ filter p (x ∷ [])) (filter-reverse p xs) in
    elim (cases_Bool (p x)) [
      | inl passes ↦ last ∙ (rw passes (sym (reverse-append (x ∷ []) (filter p xs))))
      | inr fails ↦ last ∙ (rw fails (append-nil (reverse (filter p xs))))
    ]

-- the first of those that pass one test and another
pub find-filter : {X : Type 0} (q p : X → Bool) (xs : List X) → find p (filter q xs) ≡ find (λ x. q x && p x) xs
find-filter q p [] = refl
find-filter q p (x ∷ xs) =
    elim (cases_Bool (q x)) [
      | inl passes ↦ rw passes (elim (cases_Bool (p x)) [ inl here ↦ rw here refl | inr not_here ↦ rw not_here (find-filter q p xs) ])
      | inr fails ↦ rw fails (find-filter q p xs)
    ]

-- what is found passes the test
pub found_passes : {X : Type 0} (p : X → Bool) (xs : List X) (x : X) → find p xs ≡ Some x → p x ≡ true
found_passes p [] x found = cc
found_passes {X} p (y ∷ ys) x found =
    elim (cases_Bool (p y)) [
      | inl passes ↦
          let same : y ≡ x = (let here : Some y ≡ Some x = rw passes at found in cc) in
          ap p (sym same) ∙ passes
      | inr fails ↦ found_passes p ys x (rw fails at found)
    ]

-- one more element is mapped in place
pub mapped_more : {X : Type 0} (f : X → X) (xs : List X) (i : ℕ) (d : X) → i < length xs
    → set (map f (take i xs) ++ drop i xs) i (f (get_or (map f (take i xs) ++ drop i xs) i d)) ≡ map f (take (i + 1) xs) ++ drop (i + 1) xs
mapped_more f [] i d within = absurd (omega arith)
mapped_more f (x ∷ xs) zero d within = refl
mapped_more {X} f (x ∷ xs) (suc i) d within =
    let rest : i < length xs = omega arith in
    let next : suc i + 1 ≡ suc (i + 1) = omega arith in
    rw next (ap (λ (l : List X). f x ∷ l) (mapped_more f xs i d rest))
