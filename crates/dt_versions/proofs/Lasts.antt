use Rattle.std.proofs.Common.{ℕ, ◌≡◌, ◌+◌, ◌-◌, ◌<◌, ◌≤◌, ◌==◌, Bool, true, false, not, zero, suc, List, [], ◌∷◌, None, Some, length, get_or, take, drop, sym, ap, ◌∙◌, subst, inl, inr, arith}
use Rattle.std.specs.Prelude.{reverse, slice_get}
use Rattle.std.specs.List.{find, list_all}
use Rattle.std.specs.Option.{option_or}
use Rattle.std.proofs.lemmas.Bool.{cases_lt, cond-true, cond-false, ne_eqb, not_from_false}
use Rattle.std.proofs.lemmas.List.{get_or-drop, get_or-take, length-drop, length-take, take-append-drop, reverse-append}
use Rattle.std.proofs.lemmas.List.Folds.{find-append}
use Rattle.std.proofs.lemmas.Option.{slice_get-get_or}
use Rattle.std.proofs.Math.Seq.{take-suc}
use Rattle.std.specs.List.Sorted.{IsPartitionPoint, IsPartitionedBy}
use Rattle.dt_versions.specs.Chains.{numbered}
use Rattle.dt_versions.proofs.Places.{find_none, list_all-from, list_all-reverse}

-- The last element that passes a test.

-- P holds of the elements from one place to another, and Q of those from there to a third
pub record IsPartBetween {X : Type 0} (P Q : X → Type 0) (xs : List X) (low high place : ℕ) : Type 0 where
  pub first : (i : ℕ) (d : X) → low ≤ i → i < place → P (get_or xs i d)
  pub last : (i : ℕ) (d : X) → place ≤ i → i < high → Q (get_or xs i d)

module _ {X : Type 0} (p : X → Bool) (xs : List X) (d : X) where
  -- a list's last part, of elements that fail, does not count
  front_alone : (n : ℕ) → ((i : ℕ) → n ≤ i → i < length xs → p (get_or xs i d) ≡ false) → find p (reverse xs) ≡ find p (reverse (take n xs))
  front_alone n fails =
      let late : list_all (λ x. not (p x)) (drop n xs) ≡ true = list_all-from (λ x. not (p x)) d (drop n xs) (λ i within.
      ap (λ x. not (p x)) (get_or-drop n xs i d) ∙ not_from_false _ (fails (n + i) (omega arith) (omega (arith, length-drop n xs)))) in
      ap (λ (ys : List X). find p (reverse ys)) (sym (take-append-drop n xs))
      ∙ ap (find p) (reverse-append (take n xs) (drop n xs))
      ∙ find-append p (reverse (drop n xs)) (reverse (take n xs))
      ∙ ap (λ o. option_or o (find p (reverse (take n xs)))) (find_none p (reverse (drop n xs)) (list_all-reverse (λ x. not (p x)) d (drop n xs) late))

  pub last_found : (n : ℕ) → n ≤ length xs → (0 < n → p (get_or xs (n - 1) d) ≡ true) → ((i : ℕ) → n ≤ i → i < length xs → p (get_or xs i d) ≡ false)
      → find p (reverse xs) ≡ numbered xs n
  last_found zero within passes fails = front_alone zero fails
  last_found (suc n) within passes fails =
      let last = get_or xs n d in
      let place : suc n - 1 ≡ n = omega arith in
      let here : p last ≡ true = ap (λ i. p (get_or xs i d)) (sym place) ∙ passes (omega arith) in
      front_alone (suc n) fails
      ∙ ap (λ (ys : List X). find p (reverse ys)) (take-suc xs n d (omega arith))
      ∙ ap (find p) (reverse-append (take n xs) (last ∷ []))
      ∙ cond-true (p last) (Some last) (find p (reverse (take n xs))) here
      ∙ sym (slice_get-get_or xs n d (omega arith))
      ∙ ap (slice_get xs) (sym place)
      ∙ sym (cond-false (suc n == 0) None (slice_get xs (suc n - 1)) (ne_eqb (suc n) 0 (λ e. omega arith)))

  -- where a part of the list splits
  pub part-between : (P Q : X → Type 0) (low high n : ℕ) → low ≤ high → high ≤ length xs → n ≤ length (take (high - low) (drop low xs))
      → IsPartitionPoint P Q (take (high - low) (drop low xs)) n → IsPartBetween P Q xs low high (low + n)
  part-between P Q low high n ends inside within parts =
      let part = take (high - low) (drop low xs) in
      let size : length part ≡ high - low = omega (arith, length-take (high - low) (drop low xs), length-drop low xs) in
      let at : (i : ℕ) (e : X) → low ≤ i → i < high → get_or part (i - low) e ≡ get_or xs i e = λ i e from to.
      let same : low + (i - low) ≡ i = omega arith in
      get_or-take (high - low) (drop low xs) (i - low) e (omega arith) ∙ get_or-drop low xs (i - low) e ∙ ap (λ j. get_or xs j e) same in
      record {
        first = λ i e from to. subst P (at i e from (omega arith)) (parts.0 (i - low) e (omega arith) (omega arith));
        last = λ i e from to. subst Q (at i e (omega arith) to) (parts.1 (i - low) e (omega arith) (omega arith));
      }

  -- and the whole, where all is known of what stands before the part and after it
  pub point-of_part : (P Q : X → Type 0) (low high n : ℕ) → low ≤ high → high ≤ length xs
      → ((i : ℕ) (e : X) → i < low → P (get_or xs i e)) → ((i : ℕ) (e : X) → high ≤ i → i < length xs → Q (get_or xs i e))
      → n ≤ length (take (high - low) (drop low xs)) → IsPartitionPoint P Q (take (high - low) (drop low xs)) n → IsPartitionPoint P Q xs (low + n)
  point-of_part P Q low high n ends inside before after within parts =
      let between = part-between P Q low high n ends inside within parts in (
        λ i e from to. elim (cases_lt i low) [
          | inl early ↦ before i e early
          | inr here ↦ between.first i e here to
        ],
        λ i e from to. elim (cases_lt i high) [
          | inl here ↦ between.last i e from here
          | inr late ↦ after i e late to
        ],
      )

  pub IsPartitionedBy-part : (low high : ℕ) → low ≤ high → high ≤ length xs → IsPartitionedBy p xs → IsPartitionedBy p (take (high - low) (drop low xs))
  IsPartitionedBy-part low high ends inside parted = λ i j e before to passes.
      let size : length (take (high - low) (drop low xs)) ≡ high - low = omega (arith, length-take (high - low) (drop low xs), length-drop low xs) in
      let at : (m : ℕ) → m < high - low → get_or (take (high - low) (drop low xs)) m e ≡ get_or xs (low + m) e = λ m below.
      get_or-take (high - low) (drop low xs) m e below ∙ get_or-drop low xs m e in
      ap p (at i (omega arith)) ∙ parted (low + i) (low + j) e (omega arith) (omega arith) (sym (ap p (at j (omega arith))) ∙ passes)
