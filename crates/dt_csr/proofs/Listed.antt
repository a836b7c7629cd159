-- An array of 17 numbers is the list of them.
use Rattle.std.proofs.Common.{◌≡◌, ℕ, ◌+◌, ◌<◌, zero, suc, List, [], ◌∷◌, length, get_or, drop, refl, sym, ap, ◌∙◌, arith, add-one, drop-cons}

-- so many elements from a place on
abbrev elements_from : List ℕ → ℕ → ℕ → List ℕ
elements_from xs i zero = []
elements_from xs i (suc n) = get_or xs i 0 ∷ elements_from xs (i + 1) n

past_end : (xs : List ℕ) (i : ℕ) → i ≡ length xs → drop i xs ≡ []
past_end [] zero end = refl
past_end [] (suc i) end = refl
past_end (x ∷ xs) zero end = absurd (omega (arith, end))
past_end (x ∷ xs) (suc i) end = past_end xs i (omega (arith, end))

at_place : (xs : List ℕ) (i : ℕ) → i < length xs → drop i xs ≡ get_or xs i 0 ∷ drop (i + 1) xs
at_place xs i within = rw (add-one, drop-cons xs i 0) refl

elements-drop : (xs : List ℕ) (i n : ℕ) → i + n ≡ length xs → elements_from xs i n ≡ drop i xs
elements-drop xs i zero whole = sym (past_end xs i (omega (arith, whole)))
elements-drop xs i (suc n) whole =
    ap (λ rest. get_or xs i 0 ∷ rest) (elements-drop xs (i + 1) n (omega (arith, whole))) ∙ sym (at_place xs i (omega (arith, whole)))

pub all_elements : (xs : List ℕ) → length xs ≡ 17 → elements_from xs 0 17 ≡ xs
all_elements xs long = elements-drop xs 0 17 (omega (arith, long))
