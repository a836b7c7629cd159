use Rattle.std.proofs.Common.{ℕ, ◌≡◌, ◌+◌, ◌-◌, ◌<◌, List, ◌∷◌, ◌++◌, map, replicate, zero, suc, Some, ap, ◌∙◌, arith}
use Rattle.std.specs.Prelude.{slice_get, slice_set}
use Rattle.std.specs.List.{range_with_len}

-- A list that is filled from its front.

-- so many values of addresses, then so many others
abbrev pub filled : {X : Type 0} → (ℕ → X) → (rest : X) → (start i left : ℕ) → List X
filled f rest start i left = map f (range_with_len start i) ++ replicate left rest

fill_next : {X : Type 0} (f : ℕ → X) (rest : X) (start i left : ℕ) → slice_set (filled f rest start i (suc left)) i (f (start + i)) ≡ filled f rest start (suc i) left
fill_next f rest start zero left = let first : start + 0 ≡ start = omega arith in ap (λ n. f n ∷ replicate left rest) first
fill_next f rest start (suc i) left =
    let place : start + suc i ≡ start + 1 + i = omega arith in
    ap (λ xs. f start ∷ xs) (ap (λ n. slice_set (filled f rest (start + 1) i (suc left)) i (f n)) place ∙ fill_next f rest (start + 1) i left)

-- one more of so many places
pub fill_place : {X : Type 0} (f : ℕ → X) (rest : X) (start i count : ℕ) → i < count
    → slice_set (filled f rest start i (count - i)) i (f (start + i)) ≡ filled f rest start (i + 1) (count - (i + 1))
fill_place f rest start i count within =
    let before : count - i ≡ suc (count - (i + 1)) = omega arith in
    let after : suc i ≡ i + 1 = omega arith in
    ap (λ n. slice_set (filled f rest start i n) i (f (start + i))) before
    ∙ fill_next f rest start i (count - (i + 1))
    ∙ ap (λ n. filled f rest start n (count - (i + 1))) after

-- one of the values
pub filled_at : {X : Type 0} (f : ℕ → X) (rest : X) (start i left place : ℕ) → place < i → slice_get (filled f rest start i left) place ≡ Some (f (start + place))
filled_at f rest start zero left place within = absurd (omega arith)
filled_at f rest start (suc i) left zero within = let first : start ≡ start + 0 = omega arith in ap (λ n. Some (f n)) first
filled_at f rest start (suc i) left (suc place) within =
    let next : start + 1 + place ≡ start + suc place = omega arith in
    filled_at f rest (start + 1) i left place (omega arith) ∙ ap (λ n. Some (f n)) next
