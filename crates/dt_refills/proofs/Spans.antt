use Rattle.std.proofs.Common.{ℕ, ◌≡◌, ◌+◌, ◌<◌, ◌≤◌, ◌||◌, Bool, true, false, zero, suc, refl, ap, subst, ◌∙◌, inl, inr, arith}
use Rattle.std.specs.List.{list_any, range_with_len}
use Rattle.std.proofs.lemmas.Bool.{cases_lt, or_right}

-- Tests of the numbers from one on.

pub some_passes : (p : ℕ → Bool) (a n k : ℕ) → a ≤ k → k < a + n → p k ≡ true → list_any p (range_with_len a n) ≡ true
some_passes p a zero k from to passes = absurd (omega arith)
some_passes p a (suc n) k from to passes = elim (cases_lt a k) [
  | inl later ↦ or_right (p a) (list_any p (range_with_len (a + 1) n)) (some_passes p (a + 1) n k (omega arith) (omega arith) passes)
  | inr here ↦ let same : k ≡ a = omega arith in rw (subst (λ j. p j ≡ true) same passes) refl
]

pub none_passes : (p : ℕ → Bool) (a n : ℕ) → ((k : ℕ) → a ≤ k → k < a + n → p k ≡ false) → list_any p (range_with_len a n) ≡ false
none_passes p a zero fails = refl
none_passes p a (suc n) fails =
    rw (fails a (omega arith) (omega arith)) (none_passes p (a + 1) n (λ k from to. fails k (omega arith) (omega arith)))

pub pass_alike : (p q : ℕ → Bool) (a n : ℕ) → ((k : ℕ) → a ≤ k → k < a + n → p k ≡ q k) → list_any p (range_with_len a n) ≡ list_any q (range_with_len a n)
pass_alike p q a zero alike = refl
pass_alike p q a (suc n) alike =
    ap (λ b. b || list_any p (range_with_len (a + 1) n)) (alike a (omega arith) (omega arith))
    ∙ ap (λ b. q a || b) (pass_alike p q (a + 1) n (λ k from to. alike k (omega arith) (omega arith)))
