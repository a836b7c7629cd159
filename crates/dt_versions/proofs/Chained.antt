use Rattle.std.proofs.Common.{ℕ, ◌≡◌, ◌+◌, ◌-◌, ◌%◌, ◌<◌, ◌≤◌, ◌==◌, true, false, if◌then◌else◌, zero, suc, List, [], ◌∷◌, ◌++◌, None, Some, IsTrue, length, get_or, leb, refl, sym, ap, ◌∙◌, subst, inl, inr, arith}
use Rattle.std.specs.Prelude.{reverse, slice_index, slice_get}
use Rattle.std.specs.List.{find, list_all}
use Rattle.std.specs.List.Sorted.{IsNonDecreasing}
use Rattle.std.specs.Option.{unwrap_or}
use Rattle.std.specs.Int.{bit_at}
use Rattle.std.proofs.lemmas.Bool.{and_left, and_parts, and_right, and_from, cases_Bool, cases_eq, cases_lt, cond-true, cond-false, eq-eqb, eqb-true, le-leb, lt-leb, leb-true, ne_eqb}
use Rattle.std.proofs.lemmas.List.{get_or_append_left, get_or_push, length-append, length_push, reverse-append}
use Rattle.std.proofs.lemmas.Option.{unwrap_or-slice_get}
use Rattle.std.proofs.lemmas.List.Folds.{list_all-append}
use Rattle.std.proofs.lemmas.List.Sorted.{IsNonDecreasingBy-push}
use Rattle.dt_lists.proofs.Lists.{list_all-weaker, list_all-at}
use Rattle.dt_record.specs.declared.writes.Write.{Write}
use Rattle.dt_record.specs.Lawful.{is_ram_line}
use Rattle.dt_record.specs.Memory.{covers, line_of}
use Rattle.dt_versions.specs.Chains.{IsChained, IsLastCover, line_place, newest_until, number_at, row_of}
use Rattle.dt_versions.proofs.Places.{list_all-reverse}

-- One more write.

-- the newest number is not above k
found_below : (k : ℕ) (xs : List ℕ) → unwrap_or (find (λ m. leb m k) xs) 0 ≤ k
found_below k [] = omega arith
found_below k (x ∷ xs) = elim (cases_Bool (leb x k)) [
  | inl here ↦ let is = ap (λ o. unwrap_or o 0) (cond-true (leb x k) (Some x) (find (λ m. leb m k) xs) here) in omega (arith, is, leb-true x k here)
  | inr past ↦ let is = ap (λ o. unwrap_or o 0) (cond-false (leb x k) (Some x) (find (λ m. leb m k) xs) past) in omega (arith, is, found_below k xs)
]

pub newest_until-le : (chain : List ℕ) (k : ℕ) → newest_until chain k ≤ k
newest_until-le chain k = found_below k (reverse chain)

-- a number above k at a chain's end does not count, one that is not is the newest
newest_until-past : (chain : List ℕ) (m k : ℕ) → k < m → newest_until (chain ++ m ∷ []) k ≡ newest_until chain k
newest_until-past chain m k above =
    ap (λ xs. unwrap_or (find (λ m. leb m k) xs) 0) (reverse-append chain (m ∷ []))
    ∙ ap (λ o. unwrap_or o 0) (cond-false (leb m k) (Some m) (find (λ m. leb m k) (reverse chain)) (lt-leb m k above))

newest_until-here : (chain : List ℕ) (m k : ℕ) → m ≤ k → newest_until (chain ++ m ∷ []) k ≡ m
newest_until-here chain m k within =
    ap (λ xs. unwrap_or (find (λ m. leb m k) xs) 0) (reverse-append chain (m ∷ []))
    ∙ ap (λ o. unwrap_or o 0) (cond-true (leb m k) (Some m) (find (λ m. leb m k) (reverse chain)) (le-leb m k within))

-- in a chain of numbers up to n, the newest until n + 1 is that until n
same_found : (n : ℕ) (xs : List ℕ) → list_all (λ m. leb m n) xs ≡ true → find (λ m. leb m (n + 1)) xs ≡ find (λ m. leb m n) xs
same_found n [] bounded = refl
same_found n (x ∷ xs) bounded =
    let here : leb x n ≡ true = (and_parts (leb x n) (list_all (λ m. leb m n) xs) bounded).0 in
    cond-true (leb x (n + 1)) (Some x) (find (λ m. leb m (n + 1)) xs) (le-leb x (n + 1) (omega (arith, leb-true x n here)))
    ∙ sym (cond-true (leb x n) (Some x) (find (λ m. leb m n) xs) here)

newest_until-next : (chain : List ℕ) (n : ℕ) → IsTrue (list_all (λ m. leb m n) chain) → newest_until chain (n + 1) ≡ newest_until chain n
newest_until-next chain n bounded = ap (λ o. unwrap_or o 0) (same_found n (reverse chain) (list_all-reverse (λ m. leb m n) 0 chain bounded))

-- rows at the end do not change the earlier ones
row_of-some : (rows : List (List ℕ)) (n : ℕ) → 0 < n → row_of rows n ≡ get_or rows (n - 1) []
row_of-some rows n some =
    let none : List ℕ = [] in
    ap (λ o. unwrap_or o none) (cond-false (n == 0) None (slice_get rows (n - 1)) (ne_eqb n 0 (λ e. omega arith)))
    ∙ unwrap_or-slice_get rows (n - 1) none

row_of-left : (rows : List (List ℕ)) (row : List ℕ) (n : ℕ) → n ≤ length rows → row_of (rows ++ row ∷ []) n ≡ row_of rows n
row_of-left rows row zero within = refl
row_of-left rows row (suc n) within =
    row_of-some (rows ++ row ∷ []) (suc n) (omega arith)
    ∙ get_or_append_left rows (row ∷ []) [] (suc n - 1) (omega arith)
    ∙ sym (row_of-some rows (suc n) (omega arith))

row_of-push : (rows : List (List ℕ)) (row : List ℕ) (n : ℕ) → length rows ≡ n → row_of (rows ++ row ∷ []) (n + 1) ≡ row
row_of-push rows row n size =
    let place : n + 1 - 1 ≡ n = omega arith in
    row_of-some (rows ++ row ∷ []) (n + 1) (omega arith) ∙ ap (λ i. get_or (rows ++ row ∷ []) i []) place ∙ get_or_push rows row [] n size

-- what was the last cover stays it while no later write is looked at, and after one that does not cover the byte
IsLastCover-longer : (writes : List Write) (w : Write) (k addr n : ℕ) → k ≤ length writes → IsLastCover writes k addr n → IsLastCover (writes ++ w ∷ []) k addr n
IsLastCover-longer writes w k addr n inside is = record {
  within = is.within;
  hit = λ d some. ap (covers addr) (get_or_append_left writes (w ∷ []) d (n - 1) (omega (arith, is.within))) ∙ is.hit d some;
  clear = λ j d from to. ap (covers addr) (get_or_append_left writes (w ∷ []) d j (omega arith)) ∙ is.clear j d from to;
}

IsLastCover-more : (writes : List Write) (w : Write) (addr n : ℕ) → covers addr w ≡ false → IsLastCover writes (length writes) addr n
    → IsLastCover (writes ++ w ∷ []) (length writes + 1) addr n
IsLastCover-more writes w addr n past is = record {
  within = omega (arith, is.within);
  hit = λ d some. ap (covers addr) (get_or_append_left writes (w ∷ []) d (n - 1) (omega (arith, is.within))) ∙ is.hit d some;
  clear = λ j d from to. elim (cases_lt j (length writes)) [
    | inl before ↦ ap (covers addr) (get_or_append_left writes (w ∷ []) d j before) ∙ is.clear j d from before
    | inr last ↦ let place : length writes ≡ j = omega arith in ap (covers addr) (get_or_push writes w d j place) ∙ past
  ];
}

IsLastCover-here : (writes : List Write) (w : Write) (addr : ℕ) → covers addr w ≡ true → IsLastCover (writes ++ w ∷ []) (length writes + 1) addr (length writes + 1)
IsLastCover-here writes w addr hit = record {
  within = omega arith;
  hit = λ d some. let place : length writes ≡ length writes + 1 - 1 = omega arith in ap (covers addr) (get_or_push writes w d (length writes + 1 - 1) place) ∙ hit;
  clear = λ j d from to. absurd (omega arith);
}

line_facts : (line : ℕ) → IsTrue (is_ram_line line) → (line % 64 ≡ 0) × (0x8000_0000 ≤ line)
line_facts line is =
    let parts = and_parts (line % 64 == 0) _ is in
    (eqb-true (line % 64) 0 parts.0, leb-true 0x8000_0000 line (and_parts (leb 0x8000_0000 line) _ parts.1).0)

module _ (writes : List Write) (rows : List (List ℕ)) (chains next : ℕ → List ℕ) (w : Write) (row : List ℕ)
    (stands : IsChained writes rows chains) (in_ram : IsTrue (is_ram_line w.line))
    (pushed : (place : ℕ) → next place ≡ (if place == line_place w.line then chains (line_place w.line) ++ (length writes + 1) ∷ [] else chains place))
    (written : (i : ℕ) → i < 64 → slice_index row i ≡ (if bit_at w.mask i == 1 then length writes + 1 else number_at rows (newest_until (chains (line_place w.line)) (length writes)) i)) where
  pushed-here : (place : ℕ) → place ≡ line_place w.line → next place ≡ chains place ++ (length writes + 1) ∷ []
  pushed-here place same =
      pushed place ∙ cond-true (place == line_place w.line) _ (chains place) (eq-eqb place (line_place w.line) same)
      ∙ ap (λ p. chains p ++ (length writes + 1) ∷ []) (sym same)

  pushed-away : (place : ℕ) → (place ≡ line_place w.line → ⊥) → next place ≡ chains place
  pushed-away place other = pushed place ∙ cond-false (place == line_place w.line) (chains (line_place w.line) ++ (length writes + 1) ∷ []) _ (ne_eqb place (line_place w.line) other)

  -- the same number as before, up to the moment before
  same_newest : (place k : ℕ) → k ≤ length writes → newest_until (next place) k ≡ newest_until (chains place) k
  same_newest place k before = elim (cases_eq place (line_place w.line)) [
    | inl here ↦ ap (λ chain. newest_until chain k) (pushed-here place here) ∙ newest_until-past (chains place) (length writes + 1) k (omega arith)
    | inr away ↦ ap (λ chain. newest_until chain k) (pushed-away place away)
  ]

  same_number : (place k i : ℕ) → k ≤ length writes → number_at rows (newest_until (chains place) k) i ≡ number_at (rows ++ row ∷ []) (newest_until (next place) k) i
  same_number place k i before =
      ap (λ (r : List ℕ). slice_index r i)
      (sym (row_of-left rows row (newest_until (chains place) k) (omega (arith, newest_until-le (chains place) k, stands.as_long)))
      ∙ ap (row_of (rows ++ row ∷ [])) (sym (same_newest place k before)))

  at_line : (addr : ℕ) → 0x8000_0000 ≤ addr → line_place addr ≡ line_place w.line → w.line ≡ line_of addr
  at_line addr above same = let facts = line_facts w.line in_ram in omega (arith, facts.0, facts.1)

  off_line : (addr : ℕ) → 0x8000_0000 ≤ addr → (line_place addr ≡ line_place w.line → ⊥) → w.line ≡ line_of addr → ⊥
  off_line addr above other same = other (let facts = line_facts w.line in_ram in omega (arith, facts.0, facts.1))

  exact_now : (addr : ℕ) → 0x8000_0000 ≤ addr
      → IsLastCover (writes ++ w ∷ []) (length writes + 1) addr (number_at (rows ++ row ∷ []) (newest_until (next (line_place addr)) (length writes + 1)) (addr % 64))
  exact_now addr above =
      let n = length writes in
      let p = line_place addr in
      let before = stands.exact addr n above (omega arith) in
      elim (cases_eq p (line_place w.line)) [
        | inl here ↦
            let newest : newest_until (next p) (n + 1) ≡ n + 1 =
            ap (λ chain. newest_until chain (n + 1)) (pushed-here p here) ∙ newest_until-here (chains p) (n + 1) (n + 1) (omega arith) in
            let number =
            ap (λ m. number_at (rows ++ row ∷ []) m (addr % 64)) newest
            ∙ ap (λ (r : List ℕ). slice_index r (addr % 64)) (row_of-push rows row n stands.as_long) ∙ written (addr % 64) (omega arith) in
            elim (cases_Bool (bit_at w.mask (addr % 64) == 1)) [
              | inl set ↦
                  subst (IsLastCover (writes ++ w ∷ []) (n + 1) addr) (sym (number ∙ cond-true (bit_at w.mask (addr % 64) == 1) (n + 1) _ set))
                  (IsLastCover-here writes w addr (and_from _ _ (eq-eqb w.line (line_of addr) (at_line addr above here)) set))
              | inr clear ↦
                  subst (IsLastCover (writes ++ w ∷ []) (n + 1) addr)
                  (sym (number ∙ cond-false (bit_at w.mask (addr % 64) == 1) (n + 1) _ clear ∙ ap (λ q. number_at rows (newest_until (chains q) n) (addr % 64)) (sym here)))
                  (IsLastCover-more writes w addr _ (and_right (w.line == line_of addr) _ clear) before)
            ]
        | inr away ↦
            let newest = ap (λ chain. newest_until chain (n + 1)) (pushed-away p away) ∙ newest_until-next (chains p) n (stands.bounded p) in
            let number =
            ap (λ m. number_at (rows ++ row ∷ []) m (addr % 64)) newest
            ∙ ap (λ (r : List ℕ). slice_index r (addr % 64)) (row_of-left rows row (newest_until (chains p) n) (omega (arith, newest_until-le (chains p) n, stands.as_long))) in
            subst (IsLastCover (writes ++ w ∷ []) (n + 1) addr) (sym number)
            (IsLastCover-more writes w addr _ (and_left (w.line == line_of addr) _ (ne_eqb w.line (line_of addr) (off_line addr above away))) before)
      ]

  rising_now : (place : ℕ) → IsNonDecreasing (next place)
  rising_now place = elim (cases_eq place (line_place w.line)) [
    | inl here ↦
        subst (λ (chain : List ℕ). IsNonDecreasing chain) (sym (pushed-here place here))
        (IsNonDecreasingBy-push (λ m. m) (chains place) (length writes + 1) (stands.rising place) (λ d some.
        let below = leb-true _ _ (list_all-at (λ m. leb m (length writes)) (chains place) (length (chains place) - 1) d (stands.bounded place) (omega arith)) in
        omega arith))
    | inr away ↦ subst (λ (chain : List ℕ). IsNonDecreasing chain) (sym (pushed-away place away)) (stands.rising place)
  ]

  bounded_now : (place : ℕ) → list_all (λ m. leb m (length writes + 1)) (next place) ≡ true
  bounded_now place =
      let older = list_all-weaker (λ m. leb m (length writes)) (λ m. leb m (length writes + 1)) (chains place) (λ m below.
      le-leb m (length writes + 1) (omega (arith, leb-true m (length writes) below))) (stands.bounded place) in
      elim (cases_eq place (line_place w.line)) [
        | inl here ↦
            ap (list_all (λ m. leb m (length writes + 1))) (pushed-here place here)
            ∙ list_all-append (λ m. leb m (length writes + 1)) (chains place) ((length writes + 1) ∷ [])
            ∙ and_from _ _ older (and_from _ true (le-leb (length writes + 1) (length writes + 1) (omega arith)) refl)
        | inr away ↦ ap (list_all (λ m. leb m (length writes + 1))) (pushed-away place away) ∙ older
      ]

  pub IsChained-push : IsChained (writes ++ w ∷ []) (rows ++ row ∷ []) next
  IsChained-push = record {
    exact = λ addr k above within. elim (cases_lt (length writes) k) [
      | inl now ↦
          let last : length writes + 1 ≡ k = omega (arith, length-append writes (w ∷ [])) in
          subst (λ j. IsLastCover (writes ++ w ∷ []) j addr (number_at (rows ++ row ∷ []) (newest_until (next (line_place addr)) j) (addr % 64))) last (exact_now addr above)
      | inr before ↦
          subst (IsLastCover (writes ++ w ∷ []) k addr) (same_number (line_place addr) k (addr % 64) before)
          (IsLastCover-longer writes w k addr _ before (stands.exact addr k above before))
    ];
    rising = rising_now;
    bounded = λ place. ap (λ n. list_all (λ m. leb m n) (next place)) (length_push writes w) ∙ bounded_now place;
    as_long = omega (arith, length-append rows (row ∷ []), length-append writes (w ∷ []), stands.as_long);
  }
