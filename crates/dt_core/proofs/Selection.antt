use Rattle.std.proofs.Common.{◌≡◌, Bool, true, false, cond, List, [], ◌∷◌, filter, refl, sym, ap, ◌∙◌}
use Rattle.std.proofs.lemmas.Bool.{both_ways}
use Rattle.dt_lists.proofs.Lists.{filter-kept, filter-dropped}

-- Filters, one element at a time.

-- what is behind an element of which a filter keeps the same
pub filter-behind : {X : Type 0} (p : X → Bool) (x : X) (xs ys : List X) → filter p xs ≡ filter p ys → filter p (x ∷ xs) ≡ filter p (x ∷ ys)
filter-behind p x xs ys same = ap (λ zs. cond (p x) (x ∷ zs) zs) same

ahead : {X : Type 0} (x : X) (b : Bool) (us vs : List X) → cond b (x ∷ us) us ≡ cond b (x ∷ vs) vs → us ≡ vs
ahead x true us vs e = cc
ahead x false us vs e = e

pub filter-ahead : {X : Type 0} (p : X → Bool) (x : X) (xs ys : List X) → filter p (x ∷ xs) ≡ filter p (x ∷ ys) → filter p xs ≡ filter p ys
filter-ahead p x xs ys same = ahead x (p x) (filter p xs) (filter p ys) same

-- two elements of which no filter keeps both
swap : {X : Type 0} (x y : X) (b c : Bool) (us : List X) → (b ≡ true → c ≡ true → ⊥)
    → cond b (x ∷ cond c (y ∷ us) us) (cond c (y ∷ us) us) ≡ cond c (y ∷ cond b (x ∷ us) us) (cond b (x ∷ us) us)
swap x y true true us never = absurd (never refl refl)
swap x y true false us never = refl
swap x y false true us never = refl
swap x y false false us never = refl

pub filter-swap : {X : Type 0} (p : X → Bool) (x y : X) (xs : List X) → (p x ≡ true → p y ≡ true → ⊥) → filter p (x ∷ y ∷ xs) ≡ filter p (y ∷ x ∷ xs)
filter-swap p x y xs apart = swap x y (p x) (p y) (filter p xs) apart

both-step : {X : Type 0} (p q : X → Bool) (x : X) (xs : List X) → filter p (filter q xs) ≡ filter q (filter p xs) → (b c : Bool) → p x ≡ b → q x ≡ c
    → filter p (cond c (x ∷ filter q xs) (filter q xs)) ≡ filter q (cond b (x ∷ filter p xs) (filter p xs))
both-step p q x xs rest true true kept held = filter-kept p x (filter q xs) kept ∙ ap (λ ys. x ∷ ys) rest ∙ sym (filter-kept q x (filter p xs) held)
both-step p q x xs rest true false kept held = rest ∙ sym (filter-dropped q x (filter p xs) held)
both-step p q x xs rest false true kept held = filter-dropped p x (filter q xs) kept ∙ rest
both-step p q x xs rest false false kept held = rest

narrow-step : {X : Type 0} (p q : X → Bool) (x : X) (xs : List X) → (p x ≡ true → q x ≡ true) → filter p (filter q xs) ≡ filter p xs → (b c : Bool) → p x ≡ b → q x ≡ c
    → filter p (cond c (x ∷ filter q xs) (filter q xs)) ≡ cond b (x ∷ filter p xs) (filter p xs)
narrow-step p q x xs within rest true true kept held = filter-kept p x (filter q xs) kept ∙ ap (λ ys. x ∷ ys) rest
narrow-step p q x xs within rest true false kept held = absurd (both_ways (q x) held (within kept))
narrow-step p q x xs within rest false true kept held = filter-dropped p x (filter q xs) kept ∙ rest
narrow-step p q x xs within rest false false kept held = rest

-- a filter that keeps nothing that another would not
pub filter-narrow : {X : Type 0} (p q : X → Bool) (xs : List X) → ((x : X) → p x ≡ true → q x ≡ true) → filter p (filter q xs) ≡ filter p xs
filter-narrow p q [] within = refl
filter-narrow p q (x ∷ xs) within = narrow-step p q x xs (within x) (filter-narrow p q xs within) (p x) (q x) refl refl

pub filter-empty : {X : Type 0} (p : X → Bool) (xs : List X) → ((x : X) → p x ≡ false) → filter p xs ≡ []
filter-empty p [] fails = refl
filter-empty p (x ∷ xs) fails = filter-dropped p x xs (fails x) ∙ filter-empty p xs fails
