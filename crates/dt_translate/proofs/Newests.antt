-- The newest moment of a span, as a value and as a fact.
use Rattle.std.proofs.Common.{◌≡◌, ℕ, zero, suc, ◌+◌, ◌-◌, ◌≤◌, ◌<◌, Bool, true, false, IsTrue, if◌then◌else◌, [], ◌∷◌, ◌++◌, Option, Some, None, reverse, refl, sym, ap, ◌∙◌, subst, inl, inr, arith}
use Rattle.std.specs.List.{find, range_with_len}
use Rattle.std.proofs.lemmas.Bool.{both_ways, cases_lt}
use Rattle.std.proofs.lemmas.List.{reverse-append}
use Rattle.dt_versions.specs.declared.moments.Span.{Span}
use Rattle.dt_translate.specs.Newest.{HasNone, IsNewest, IsWithin, newest}

-- the numbers from a on, with one more at the end
range-more : (a n : ℕ) → range_with_len a (suc n) ≡ range_with_len a n ++ (a + n) ∷ []
range-more a zero = ap (λ x. x ∷ []) (omega arith)
range-more a (suc n) = ap (λ xs. a ∷ xs) (range-more (a + 1) n ∙ ap (λ x. range_with_len (a + 1) n ++ x ∷ []) (omega arith))

down-more : (a n : ℕ) → reverse (range_with_len a (suc n)) ≡ (a + n) ∷ reverse (range_with_len a n)
down-more a n = ap reverse (range-more a n) ∙ reverse-append (range_with_len a n) ((a + n) ∷ [])

module _ (test : ℕ → Bool) where
  -- the first that passes, from the greatest number down
  down : ℕ → ℕ → Option ℕ
  down a n = find test (reverse (range_with_len a n))

  down-passes : (a n : ℕ) → test (a + n) ≡ true → down a (suc n) ≡ Some (a + n)
  unfolding down
  down-passes a n passes = ap (find test) (down-more a n) ∙ ap (λ b. if b then Some (a + n) else find test (reverse (range_with_len a n))) passes

  down-fails : (a n : ℕ) → test (a + n) ≡ false → down a (suc n) ≡ down a n
  unfolding down
  down-fails a n fails = ap (find test) (down-more a n) ∙ ap (λ b. if b then Some (a + n) else find test (reverse (range_with_len a n))) fails

  not_true : (b : Bool) → ¬ (IsTrue b) → b ≡ false
  not_true true fails = absurd (fails refl)
  not_true false fails = refl

  down-some : (a n k : ℕ) → a ≤ k → k < a + n → IsTrue (test k) → ((j : ℕ) → k < j → j < a + n → ¬ (IsTrue (test j))) → down a n ≡ Some k
  down-some a zero k from to holds newest = absurd (omega arith)
  down-some a (suc n) k from to holds newest = elim (cases_lt k (a + n)) [
    | inl before ↦
        down-fails a n (not_true (test (a + n)) (newest (a + n) before (omega arith)))
        ∙ down-some a n k from before holds (λ j above below. newest j above (omega arith))
    | inr last ↦
        let same : k ≡ a + n = omega arith in
        down-passes a n (subst (λ j. test j ≡ true) same holds) ∙ ap Some (sym same)
  ]

  down-none : (a n : ℕ) → ((j : ℕ) → a ≤ j → j < a + n → ¬ (IsTrue (test j))) → down a n ≡ None
  unfolding down
  down-none a zero none = refl
  down-none a (suc n) none =
      down-fails a n (not_true (test (a + n)) (none (a + n) (omega arith) (omega arith)))
      ∙ down-none a n (λ j from to. none j from (omega arith))

  down-within : (a n k : ℕ) → down a n ≡ Some k → (a ≤ k) × (k < a + n)
  unfolding down
  down-within a zero k is = absurd (let no : None ≡ Some k = is in cc)
  down-within a (suc n) k is =
      elim (test (a + n)) as (λ b. test (a + n) ≡ b → (a ≤ k) × (k < a + suc n)) [
        | true ↦ λ passes. let here : Some (a + n) ≡ Some k = sym (down-passes a n passes) ∙ is in let same : a + n ≡ k = cc in (omega arith, omega arith)
        | false ↦ λ fails. let below = down-within a n k (sym (down-fails a n fails) ∙ is) in (below.0, omega (arith, below.1))
      ] refl

  pub newest-within : (span : Span) (k : ℕ) → newest test span ≡ Some k → IsWithin span k
  unfolding down newest
  newest-within span k is =
      let within = down-within span.first (span.last + 1 - span.first) k is in
      record { from = within.0; to = omega (arith, within.0, within.1) }

  pub newest-some : (span : Span) (k : ℕ) → IsNewest (λ j. IsTrue (test j)) span k → newest test span ≡ Some k
  unfolding down newest
  newest-some span k is =
      down-some span.first (span.last + 1 - span.first) k is.within.from (omega (arith, is.within.from, is.within.to)) is.holds
      (λ j above below. is.newest j (record { from = omega (arith, is.within.from); to = omega (arith, is.within.from, is.within.to) }) above)

  pub newest-none : (span : Span) → HasNone (λ j. IsTrue (test j)) span → newest test span ≡ None
  unfolding down newest
  newest-none span none =
      down-none span.first (span.last + 1 - span.first) (λ j from to. none j (record { from = from; to = omega arith }))

  down-holds : (a n k : ℕ) → down a n ≡ Some k → IsTrue (test k) × ((j : ℕ) → k < j → j < a + n → ¬ (IsTrue (test j)))
  unfolding down
  down-holds a zero k is = absurd (let no : None ≡ Some k = is in cc)
  down-holds a (suc n) k is =
      elim (test (a + n)) as (λ b. test (a + n) ≡ b → IsTrue (test k) × ((j : ℕ) → k < j → j < a + suc n → ¬ (IsTrue (test j)))) [
        | true ↦ λ passes.
            let here : Some (a + n) ≡ Some k = sym (down-passes a n passes) ∙ is in
            let same : a + n ≡ k = cc in
            (subst (λ j. test j ≡ true) same passes, λ j above below. absurd (omega arith))
        | false ↦ λ fails.
            let before = down-holds a n k (sym (down-fails a n fails) ∙ is) in (
              before.0,
              λ j above below. elim (cases_lt j (a + n)) [
                | inl earlier ↦ before.1 j above earlier
                | inr last ↦ let same : j ≡ a + n = omega arith in λ passes. both_ways (test (a + n)) fails (subst (λ i. test i ≡ true) same passes)
              ],
            )
      ] refl

  down-misses : (a n j : ℕ) → down a n ≡ None → a ≤ j → j < a + n → ¬ (IsTrue (test j))
  unfolding down
  down-misses a zero j is from to = absurd (omega arith)
  down-misses a (suc n) j is from to =
      elim (test (a + n)) as (λ b. test (a + n) ≡ b → ¬ (IsTrue (test j))) [
        | true ↦ λ passes. absurd (let no : Some (a + n) ≡ None = sym (down-passes a n passes) ∙ is in cc)
        | false ↦ λ fails. elim (cases_lt j (a + n)) [
          | inl earlier ↦ down-misses a n j (sym (down-fails a n fails) ∙ is) from earlier
          | inr last ↦ let same : j ≡ a + n = omega arith in λ passes. both_ways (test (a + n)) fails (subst (λ i. test i ≡ true) same passes)
        ]
      ] refl

  pub newest-holds : (span : Span) (k : ℕ) → newest test span ≡ Some k → IsNewest (λ j. IsTrue (test j)) span k
  unfolding down newest
  newest-holds span k is =
      let within = newest-within span k is in
      let holds = down-holds span.first (span.last + 1 - span.first) k is in
      record { within = within; holds = holds.0; newest = λ j inside above. holds.1 j above (omega (arith, inside.from, inside.to)) }

  newest-misses : (span : Span) (k : ℕ) → newest test span ≡ None → IsWithin span k → ¬ (IsTrue (test k))
  unfolding down newest
  newest-misses span k is inside = down-misses span.first (span.last + 1 - span.first) k is inside.from (omega (arith, inside.from, inside.to))

  -- where some moment of a span passes, the newest is found
  pub newest-found : (span : Span) (k : ℕ) → IsWithin span k → IsTrue (test k) → (m : ℕ) × IsNewest (λ j. IsTrue (test j)) span m
  newest-found span k inside passes =
      elim (newest test span) as (λ o. newest test span ≡ o → (m : ℕ) × IsNewest (λ j. IsTrue (test j)) span m) [
        | Some m ↦ λ is. (m, newest-holds span m is)
        | None ↦ λ is. absurd (newest-misses span k is inside passes)
      ] refl

-- tests that agree within a span have the same newest moment
down-same : (first second : ℕ → Bool) (a n : ℕ) → ((j : ℕ) → a ≤ j → j < a + n → first j ≡ second j) → down first a n ≡ down second a n
unfolding down
down-same first second a zero same = refl
down-same first second a (suc n) same =
    ap (find first) (down-more a n)
    ∙ ap (λ b. if b then Some (a + n) else find first (reverse (range_with_len a n))) (same (a + n) (omega arith) (omega arith))
    ∙ ap (λ rest. if second (a + n) then Some (a + n) else rest) (down-same first second a n (λ j from to. same j from (omega arith)))
    ∙ sym (ap (find second) (down-more a n))

pub newest-same : (first second : ℕ → Bool) (span : Span) → ((j : ℕ) → IsWithin span j → first j ≡ second j) → newest first span ≡ newest second span
unfolding down newest
newest-same first second span same =
    down-same first second span.first (span.last + 1 - span.first) (λ j from to. same j (record { from = from; to = omega arith }))
