use Rattle.std.proofs.Common.{ℕ, ◌<◌, ◌≤◌, zero, suc, List, [], ◌∷◌, length, get_or, arith}
use Rattle.std.specs.Prelude.{IfNone, IfSome, slice_get}

-- What is known of an element that may be there.

pub IfSome-slice_get : (P : ℕ → Type 0) (xs : List ℕ) (i : ℕ) → (i < length xs → P (get_or xs i 0)) → IfSome (slice_get xs i) P
IfSome-slice_get P [] i known = tt
IfSome-slice_get P (x ∷ xs) zero known = known (omega arith)
IfSome-slice_get P (x ∷ xs) (suc i) known = IfSome-slice_get P xs i (λ inside. known (omega arith))

pub IfNone-slice_get : (P : Type 0) (xs : List ℕ) (i : ℕ) → (length xs ≤ i → P) → IfNone (slice_get xs i) P
IfNone-slice_get P [] i known = known (omega arith)
IfNone-slice_get P (x ∷ xs) zero known = tt
IfNone-slice_get P (x ∷ xs) (suc i) known = IfNone-slice_get P xs i (λ past. known (omega arith))
