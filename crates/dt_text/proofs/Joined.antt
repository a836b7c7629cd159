-- Texts joined by commas.
use Rattle.std.proofs.Common.{◌≡◌, ℕ, ◌≤◌, List, [], ◌∷◌, ◌++◌, length, get_or, drop, map, sym, ap, arith}
use Rattle.std.specs.List.{flat_map, join_with_byte}
use Rattle.std.proofs.lemmas.List.{append-nil}

joined_cons : (f : ℕ → List ℕ) (x : ℕ) (xs : List ℕ) → join_with_byte 44 (map f (x ∷ xs)) ≡ f x ++ flat_map (λ n. 44 ∷ f n) xs
joined_cons f x [] = sym (append-nil (f x))
joined_cons f x (y ∷ ys) = ap (λ (t : List ℕ). f x ++ (44 ∷ t)) (joined_cons f y ys)

-- the first, and each of the others behind a comma
pub joined : (f : ℕ → List ℕ) (xs : List ℕ) → 1 ≤ length xs → join_with_byte 44 (map f xs) ≡ f (get_or xs 0 0) ++ flat_map (λ n. 44 ∷ f n) (drop 1 xs)
joined f [] le = absurd (omega arith)
joined f (x ∷ xs) le = joined_cons f x xs
