use Rattle.std.proofs.Common.{ℕ, ◌≡◌, ◌+◌, ◌<◌, List, length, get_or, Some, sym, ◌∙◌, subst, inl, inr, arith}
use Rattle.std.proofs.Math.ListN.{set}
use Rattle.std.proofs.lemmas.Bool.{cases_eq}
use Rattle.std.proofs.lemmas.List.{get_or-set_other}
use Rattle.std.proofs.lemmas.Option.{slice_get-get_or}
use Rattle.std.proofs.lemmas.Grind.{get_or-set_at}

-- Elements by their places.

-- what holds of the elements so far, and of one more that is written
pub more_written : {X : Type 0} (P : ℕ → X → Type 0) (xs : List X) (i : ℕ) (y : X) → i < length xs
    → ((j : ℕ) (d : X) → j < i → P j (get_or xs j d)) → P i y → (j : ℕ) (d : X) → j < i + 1 → P j (get_or (set xs i y) j d)
more_written P xs i y within before here j d below = elim (cases_eq j i) [
  | inl same ↦ subst (P j) (sym (get_or-set_at xs i j y d same within)) (subst (λ n. P n y) (sym same) here)
  | inr apart ↦ subst (P j) (sym (get_or-set_other xs i j y d apart)) (before j d (omega arith))
]

-- an element within the list does not depend on the default
pub get_or-any : {X : Type 0} (xs : List X) (i : ℕ) (d e : X) → i < length xs → get_or xs i d ≡ get_or xs i e
get_or-any xs i d e within =
    let one : Some (get_or xs i d) ≡ Some (get_or xs i e) = sym (slice_get-get_or xs i d within) ∙ slice_get-get_or xs i e within in
    cc
