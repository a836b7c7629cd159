use Rattle.std.proofs.Common.{ℕ, ◌≡◌, ◌+◌, ◌<◌, ◌⊎◌, Bool, true, Some, List, [], ◌∷◌, ◌++◌, length, take, drop, filter, set, zero, suc, refl, sym, ap, ◌∙◌, inl, inr, arith}
use Rattle.std.specs.List.{slice_get, list_all}
use Rattle.std.proofs.lemmas.Bool.{and_parts, and_from, cases_Bool}
use Rattle.dt_lists.proofs.Lists.{filter-kept, filter-dropped, not_last}

-- Elements of lists by their places.

pub slice_get-set_same : {X : Type 0} (xs : List X) (i : ℕ) (x y : X) → slice_get xs i ≡ Some x → slice_get (set xs i y) i ≡ Some y
slice_get-set_same [] i x y found = absurd (let never : ⊥ = cc in never)
slice_get-set_same (z ∷ zs) zero x y found = refl
slice_get-set_same (z ∷ zs) (suc i) x y found = slice_get-set_same zs i x y found

pub slice_get-set_other : {X : Type 0} (xs : List X) (i j : ℕ) (y : X) → (j ≡ i → ⊥) → slice_get (set xs i y) j ≡ slice_get xs j
slice_get-set_other [] i j y apart = refl
slice_get-set_other (z ∷ zs) zero zero y apart = absurd (apart refl)
slice_get-set_other (z ∷ zs) zero (suc j) y apart = refl
slice_get-set_other (z ∷ zs) (suc i) zero y apart = refl
slice_get-set_other (z ∷ zs) (suc i) (suc j) y apart = slice_get-set_other zs i j y (λ same. apart (ap suc same))

pub slice_get-push : {X : Type 0} (xs : List X) (y : X) → slice_get (xs ++ y ∷ []) (length xs) ≡ Some y
slice_get-push [] y = refl
slice_get-push (x ∷ xs) y = slice_get-push xs y

pub slice_get-inside : {X : Type 0} (xs : List X) (i : ℕ) → i < length xs → (x : X) × (slice_get xs i ≡ Some x)
slice_get-inside [] i within = absurd (omega arith)
slice_get-inside (x ∷ xs) zero within = (x, refl)
slice_get-inside (x ∷ xs) (suc i) within = slice_get-inside xs i (omega arith)

-- the first elements and one more
pub take-next : {X : Type 0} (xs : List X) (i : ℕ) (x : X) → slice_get xs i ≡ Some x → take (i + 1) xs ≡ take i xs ++ x ∷ []
take-next [] i x found = absurd (let never : ⊥ = cc in never)
take-next (y ∷ ys) zero x found = let same : y ≡ x = cc in ap (λ z. z ∷ []) same
take-next (y ∷ ys) (suc i) x found =
    let more : suc i + 1 ≡ suc (i + 1) = omega arith in
    ap (λ n. take n (y ∷ ys)) more ∙ ap (λ zs. y ∷ zs) (take-next ys i x found)

pub within_get : {X : Type 0} (xs : List X) (i : ℕ) (x : X) → slice_get xs i ≡ Some x → i < length xs
within_get [] i x found = absurd (let never : ⊥ = cc in never)
within_get (y ∷ ys) zero x found = omega arith
within_get (y ∷ ys) (suc i) x found = let rest = within_get ys i x found in omega arith

-- what is left of a list behind its front
pub drop-front : {X : Type 0} (xs ys zs : List X) → xs ++ ys ≡ zs → drop (length xs) zs ≡ ys
drop-front [] ys zs is = sym is
drop-front (x ∷ xs) ys [] is = absurd (let never : ⊥ = cc in never)
drop-front (x ∷ xs) ys (z ∷ zs) is = let rest : xs ++ ys ≡ zs = cc in drop-front xs ys zs rest

pub all_filter : {X : Type 0} (p : X → Bool) (xs : List X) → list_all p (filter p xs) ≡ true
all_filter p [] = refl
all_filter p (x ∷ xs) = elim (cases_Bool (p x)) [
  | inl passes ↦ ap (list_all p) (filter-kept p x xs passes) ∙ and_from (p x) (list_all p (filter p xs)) passes (all_filter p xs)
  | inr fails ↦ ap (list_all p) (filter-dropped p x xs fails) ∙ all_filter p xs
]

pub all_front : {X : Type 0} (p : X → Bool) (xs ys : List X) → list_all p (xs ++ ys) ≡ true → list_all p xs ≡ true
all_front p [] ys all = refl
all_front p (x ∷ xs) ys all =
    let parts = and_parts (p x) (list_all p (xs ++ ys)) all in
    and_from (p x) (list_all p xs) parts.0 (all_front p xs ys parts.1)

-- one more at the end of a list stands there, or what stands elsewhere stood before
pub record StoodBefore {X : Type 0} (xs before : List X) (y : X) : Type 0 where
  pub after : List X
  pub split : xs ≡ before ++ y ∷ after

pub push-split : {X : Type 0} (xs before after : List X) (x y : X) → xs ++ x ∷ [] ≡ before ++ y ∷ after → ((xs ≡ before) × (x ≡ y)) ⊎ StoodBefore xs before y
push-split [] [] after x y is = inl (refl, cc)
push-split [] (b ∷ bs) after x y is = absurd (not_last bs after y (let rest : [] ≡ bs ++ y ∷ after = cc in rest))
push-split (w ∷ ws) [] after x y is = inr (record { after = ws; split = let same : w ≡ y = cc in ap (λ v. v ∷ ws) same })
push-split (w ∷ ws) (b ∷ bs) after x y is =
    let rest : ws ++ x ∷ [] ≡ bs ++ y ∷ after = cc in
    let first : w ≡ b = cc in
    elim (push-split ws bs after x y rest) [
      | inl end ↦ inl (ap (λ v. v ∷ ws) first ∙ ap (λ vs. b ∷ vs) end.0, end.1)
      | inr inside ↦ inr (record { after = inside.after; split = ap (λ v. v ∷ ws) first ∙ ap (λ vs. b ∷ vs) inside.split })
    ]
