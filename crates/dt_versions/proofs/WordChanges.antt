use Rattle.std.proofs.Common.{ℕ, ◌≡◌, ◌+◌, ◌-◌, ◌*◌, ◌/◌, ◌%◌, ◌<◌, ◌≤◌, Bool, true, false, List, [], ◌∷◌, length, get_or, drop, leb, refl, sym, ap, ◌∙◌, subst, inl, inr, add-one, arith}
use Rattle.std.specs.Prelude.{slice_range}
use Rattle.std.specs.List.{list_all, prefix_len}
use Rattle.std.specs.List.Sorted.{IsNonDecreasing, IsPartitionPoint, IsPartitionedBy}
use Rattle.std.proofs.lemmas.Bool.{and_cases, both_ways, cases_eq, cases_lt, le-leb, leb-true, leb-false}
use Rattle.std.proofs.lemmas.List.{get_or-drop, get_or-take, get_or_default, get_or_past, length-take}
use Rattle.std.proofs.lemmas.List.Sums.{prefix_len_passes, prefix_len_stops, prefix_len-le-length}
use Rattle.dt_lists.proofs.Lists.{list_all-at}
use Rattle.dt_record.specs.declared.writes.Write.{Write}
use Rattle.dt_record.specs.Memory.{covers}
use Rattle.dt_versions.specs.Chains.{IsChained, IsLastCover, is_unchanged, line_place, newest_until, number_at, row_of}
use Rattle.dt_versions.specs.Words.{IsChange, IsSteady}
use Rattle.dt_versions.proofs.Newest.{newest_until-none, newest_until-some}
use Rattle.dt_versions.proofs.Orders.{no_write}
use Rattle.dt_versions.proofs.Places.{list_all-from}

-- When a word changes, by the rows of its line.

-- the last cover of a byte does not fall
IsLastCover-rises : (writes : List Write) (addr j k m n : ℕ) → j ≤ k → IsLastCover writes j addr m → IsLastCover writes k addr n → m ≤ n
IsLastCover-rises writes addr j k m n later earlier is = elim (cases_lt n m) [
  | inl fell ↦ absurd (both_ways _ (is.clear (m - 1) no_write (omega arith) (omega (arith, earlier.within))) (earlier.hit no_write (omega arith)))
  | inr rose ↦ rose
]

-- the newest number until one of the chain is that one
newest_until-member : (chain : List ℕ) (i : ℕ) → IsNonDecreasing chain → i < length chain → newest_until chain (get_or chain i 0) ≡ get_or chain i 0
newest_until-member chain i rising within =
    let m = get_or chain i 0 in
    let n = prefix_len (λ x. leb x m) chain in
    let inside : n ≤ length chain = prefix_len-le-length (λ x. leb x m) chain in
    let stops : n < length chain → m < get_or chain n 0 = λ short. leb-false _ m (prefix_len_stops (λ x. leb x m) chain 0 short) in
    let past : i < n = elim (cases_lt i n) [
      | inl past ↦ past
      | inr short ↦ absurd (omega (arith, stops (omega arith), rising n i 0 short within))
    ] in
    let parts : IsPartitionPoint (λ x. x ≤ m) (λ x. m < x) chain n = (
      λ j d from to. leb-true _ m (prefix_len_passes (λ x. leb x m) chain j d to),
      λ j d from to. omega (arith, leb-false _ m (prefix_len_stops (λ x. leb x m) chain d (omega arith)), rising n j d from to),
    ) in
    let last = newest_until-some chain m n inside parts (omega arith) in
    omega (arith, last, leb-true _ m (prefix_len_passes (λ x. leb x m) chain (n - 1) 0 (omega arith)), rising i (n - 1) 0 (omega arith) (omega arith))

-- where not all elements pass, one fails
list_all-fails : {X : Type 0} (p : X → Bool) (d : X) (xs : List X) → list_all p xs ≡ false → (i : ℕ) × (i < length xs) × (p (get_or xs i d) ≡ false)
list_all-fails p d [] fails = absurd (both_ways true fails refl)
list_all-fails p d (x ∷ xs) fails = elim (and_cases (p x) (list_all p xs) fails) [
  | inl here ↦ (0, omega arith, here)
  | inr later ↦ let found = list_all-fails p d xs later in (found.0 + 1, omega (arith, found.1), rw add-one found.2)
]

-- a word of a row, number by number
word_number : (rows : List (List ℕ)) (start n i : ℕ) → i < 8 → get_or (slice_range (row_of rows n) start (start + 8)) i 0 ≡ number_at rows n (start + i)
word_number rows start n i within =
    let eight : start + 8 - start ≡ 8 = omega arith in
    get_or-take (start + 8 - start) (drop start (row_of rows n)) i 0 (omega arith) ∙ get_or-drop start (row_of rows n) i 0

unchanged-bound : (rows : List (List ℕ)) (start limit n i : ℕ) → is_unchanged rows start limit n ≡ true → i < 8 → number_at rows n (start + i) ≤ limit
unchanged-bound rows start limit n i is within =
    let numbers = slice_range (row_of rows n) start (start + 8) in
    let same = word_number rows start n i within in
    elim (cases_lt i (length numbers)) [
      | inl inside ↦ omega (arith, same, leb-true _ limit (list_all-at (λ number. leb number limit) numbers i 0 is inside))
      | inr past ↦ omega (arith, same, get_or_past numbers i 0 past)
    ]

few_numbers : (rows : List (List ℕ)) (start n : ℕ) → length (slice_range (row_of rows n) start (start + 8)) ≤ 8
few_numbers rows start n = omega (arith, length-take (start + 8 - start) (drop start (row_of rows n)))

bound-unchanged : (rows : List (List ℕ)) (start limit n : ℕ) → ((i : ℕ) → i < 8 → number_at rows n (start + i) ≤ limit) → is_unchanged rows start limit n ≡ true
bound-unchanged rows start limit n bound = list_all-from (λ number. leb number limit) 0 (slice_range (row_of rows n) start (start + 8)) (λ i inside.
    let within : i < 8 = omega (arith, few_numbers rows start n) in
    le-leb _ limit (omega (arith, word_number rows start n i within, bound i within)))

changed-above : (rows : List (List ℕ)) (start limit n : ℕ) → is_unchanged rows start limit n ≡ false → (i : ℕ) × (i < 8) × (limit < number_at rows n (start + i))
changed-above rows start limit n is =
    let found = list_all-fails (λ number. leb number limit) 0 (slice_range (row_of rows n) start (start + 8)) is in
    let within : found.0 < 8 = omega (arith, found.1, few_numbers rows start n) in
    (found.0, within, omega (arith, word_number rows start n found.0 within, leb-false _ limit found.2))

module _ (writes : List Write) (rows : List (List ℕ)) (chains : ℕ → List ℕ) (stands : IsChained writes rows chains) (addr : ℕ) (above : 0x8000_0000 ≤ addr) where
  -- what the row of a moment says of each byte of the word
  last_at : (k i : ℕ) → k ≤ length writes → i < 8
      → IsLastCover writes k (addr - addr % 8 + i) (number_at rows (newest_until (chains (line_place addr)) k) (addr % 64 / 8 * 8 + i))
  last_at k i within small =
      let byte = addr - addr % 8 + i in
      let place : line_place byte ≡ line_place addr = omega arith in
      let spot : byte % 64 ≡ addr % 64 / 8 * 8 + i = omega arith in
      subst (λ s. IsLastCover writes k byte (number_at rows (newest_until (chains (line_place addr)) k) s)) spot
      (subst (λ p. IsLastCover writes k byte (number_at rows (newest_until (chains p) k) (byte % 64))) place (stands.exact byte k (omega arith) within))

  pub IsSteady-bound : (k from : ℕ) → k ≤ length writes → ((i : ℕ) → i < 8 → number_at rows (newest_until (chains (line_place addr)) k) (addr % 64 / 8 * 8 + i) ≤ from)
      → IsSteady writes addr from k
  IsSteady-bound k from within bound = record {
    none = λ byte j d in_word after before.
        let small : byte % 8 < 8 = omega arith in
        let same : addr - addr % 8 + byte % 8 ≡ byte = omega arith in
        ap (λ b. covers b (get_or writes j d)) (sym same)
        ∙ (last_at k (byte % 8) within small).clear j d (omega (arith, bound (byte % 8) small)) before;
  }

  pub IsChange-among : (k n i : ℕ) → k ≤ length writes → 0 < n → i < 8 → number_at rows (newest_until (chains (line_place addr)) k) (addr % 64 / 8 * 8 + i) ≡ n
      → IsChange writes addr n
  IsChange-among k n i within some small is =
      let last = last_at k i within small in
      record {
        byte = addr - addr % 8 + i;
        in_word = omega arith;
        after_start = some;
        covered = λ d. subst (λ m. covers (addr - addr % 8 + i) (get_or writes (m - 1) d) ≡ true) is (last.hit d (omega (arith, is)));
      }

  pub number-within : (k i : ℕ) → k ≤ length writes → i < 8 → number_at rows (newest_until (chains (line_place addr)) k) (addr % 64 / 8 * 8 + i) ≤ k
  number-within k i within small = (last_at k i within small).within

  numbers_rise : (j k i : ℕ) → j ≤ k → k ≤ length writes → i < 8
      → number_at rows (newest_until (chains (line_place addr)) j) (addr % 64 / 8 * 8 + i) ≤ number_at rows (newest_until (chains (line_place addr)) k) (addr % 64 / 8 * 8 + i)
  numbers_rise j k i later within small = IsLastCover-rises writes _ j k _ _ later (last_at j i (omega arith) small) (last_at k i within small)

  -- a number of the chain is a moment
  member_within : (q d : ℕ) → q < length (chains (line_place addr)) → get_or (chains (line_place addr)) q d ≤ length writes
  member_within q d inside = leb-true _ _ (list_all-at (λ m. leb m (length writes)) (chains (line_place addr)) q d (stands.bounded (line_place addr)) inside)

  at_member : (q i : ℕ) → q < length (chains (line_place addr))
      → number_at rows (newest_until (chains (line_place addr)) (get_or (chains (line_place addr)) q 0)) (addr % 64 / 8 * 8 + i) ≡ number_at rows (get_or (chains (line_place addr)) q 0) (addr % 64 / 8 * 8 + i)
  at_member q i inside = ap (λ m. number_at rows m (addr % 64 / 8 * 8 + i)) (newest_until-member (chains (line_place addr)) q (stands.rising (line_place addr)) inside)

  module _ (limit : ℕ) where
    Unchanged : ℕ → Type 0
    Unchanged m = is_unchanged rows (addr % 64 / 8 * 8) limit m ≡ true

    -- up to a moment at which the word is unchanged, it is unchanged at each member of the chain
    pub unchanged-until : (k : ℕ) → k ≤ length writes → ((i : ℕ) → i < 8 → number_at rows (newest_until (chains (line_place addr)) k) (addr % 64 / 8 * 8 + i) ≤ limit)
        → (q d : ℕ) → q < length (chains (line_place addr)) → get_or (chains (line_place addr)) q 0 ≤ k
        → is_unchanged rows (addr % 64 / 8 * 8) limit (get_or (chains (line_place addr)) q d) ≡ true
    unchanged-until k within bound q d inside below =
        let m = get_or (chains (line_place addr)) q 0 in
        ap (is_unchanged rows (addr % 64 / 8 * 8) limit) (get_or_default (chains (line_place addr)) q d 0 inside)
        ∙ bound-unchanged rows (addr % 64 / 8 * 8) limit m (λ i small.
        omega (arith, at_member q i inside, numbers_rise m k i below within small, bound i small))

    -- so no member at which it is unchanged comes after one at which it has changed
    pub parted : IsPartitionedBy (is_unchanged rows (addr % 64 / 8 * 8) limit) (chains (line_place addr))
    parted i j d before inside passes =
        let m = get_or (chains (line_place addr)) j 0 in
        let here : is_unchanged rows (addr % 64 / 8 * 8) limit m ≡ true =
        ap (is_unchanged rows (addr % 64 / 8 * 8) limit) (get_or_default (chains (line_place addr)) j 0 d inside) ∙ passes in
        unchanged-until m (member_within j 0 inside)
        (λ b small. omega (arith, at_member j b inside, unchanged-bound rows (addr % 64 / 8 * 8) limit m b here small)) i d (omega arith)
        (stands.rising (line_place addr) i j 0 before inside)

    module _ (k q : ℕ) (within : k ≤ length writes) (early : limit ≤ k) (inside : q ≤ length (chains (line_place addr)))
        (bound : (i : ℕ) → i < 8 → number_at rows (newest_until (chains (line_place addr)) k) (addr % 64 / 8 * 8 + i) ≤ limit)
        (parts : IsPartitionPoint (λ m. is_unchanged rows (addr % 64 / 8 * 8) limit m ≡ true) (λ m. is_unchanged rows (addr % 64 / 8 * 8) limit m ≡ false) (chains (line_place addr)) q) where
      -- at a moment up to which just the first q members have come, the word is as it was
      steady-at : (j : ℕ) → j ≤ length writes → IsPartitionPoint (λ m. m ≤ j) (λ m. j < m) (chains (line_place addr)) q → IsSteady writes addr limit j
      steady-at j far point = IsSteady-bound j limit far (λ i small. elim (cases_eq q 0) [
        | inl none ↦ omega (arith, ap (λ m. number_at rows m (addr % 64 / 8 * 8 + i)) (newest_until-none (chains (line_place addr)) j q inside point none), no_number i)
        | inr some ↦
            let last = newest_until-some (chains (line_place addr)) j q inside point (omega arith) in
            let same = parts.0 (q - 1) 0 (omega arith) (omega arith) in
            omega (arith, ap (λ m. number_at rows m (addr % 64 / 8 * 8 + i)) last, unchanged-bound rows (addr % 64 / 8 * 8) limit (get_or (chains (line_place addr)) (q - 1) 0) i same small)
      ])
        where
          no_number : (i : ℕ) → number_at rows 0 (addr % 64 / 8 * 8 + i) ≡ 0
          no_number i = refl

      from_later : (j : ℕ) → IsSteady writes addr limit j → IsSteady writes addr k j
      from_later j steady = record { none = λ byte i d in_word after before. steady.none byte i d in_word (omega arith) before }

      pub unchanged-to_end : q ≡ length (chains (line_place addr)) → IsSteady writes addr k (length writes)
      unchanged-to_end whole =
          from_later (length writes) (steady-at (length writes) (omega arith) (
            λ i d from to. member_within i d (omega arith),
            λ i d from to. absurd (omega arith),
          ))

      module _ (more : q < length (chains (line_place addr))) where
        changed-here : (i : ℕ) × (i < 8) × (limit < number_at rows (get_or (chains (line_place addr)) q 0) (addr % 64 / 8 * 8 + i))
        changed-here = changed-above rows (addr % 64 / 8 * 8) limit (get_or (chains (line_place addr)) q 0) (parts.1 q 0 (omega arith) more)

        pub change-above : k < get_or (chains (line_place addr)) q 0
        change-above = elim (cases_lt k (get_or (chains (line_place addr)) q 0)) [
          | inl later ↦ later
          | inr early ↦ absurd (both_ways _ (parts.1 q 0 (omega arith) more) (unchanged-until k within bound q 0 more early))
        ]

        pub change-within : get_or (chains (line_place addr)) q 0 ≤ length writes
        change-within = member_within q 0 more

        steady_before : IsSteady writes addr limit (get_or (chains (line_place addr)) q 0 - 1)
        steady_before =
            let chain = chains (line_place addr) in
            let m = get_or chain q 0 in
            steady-at (m - 1) (omega (arith, change-within)) (
              λ i d from to. elim (cases_eq (get_or chain i d) m) [
                | inl same ↦
                    absurd (both_ways _ (parts.1 q 0 (omega arith) more) (ap (is_unchanged rows (addr % 64 / 8 * 8) limit) (sym same) ∙ parts.0 i d (omega arith) to))
                | inr other ↦ omega (arith, stands.rising (line_place addr) i q d (omega arith) more, get_or_default chain q d 0 more)
              ],
              λ i d from to. omega (arith, stands.rising (line_place addr) q i d from to, get_or_default chain q d 0 more, change-above),
            )

        pub change-steady : IsSteady writes addr k (get_or (chains (line_place addr)) q 0 - 1)
        change-steady = from_later (get_or (chains (line_place addr)) q 0 - 1) steady_before

        pub change-is : IsChange writes addr (get_or (chains (line_place addr)) q 0)
        change-is =
            let m = get_or (chains (line_place addr)) q 0 in
            let b = changed-here.0 in
            let x = number_at rows m (addr % 64 / 8 * 8 + b) in
            let here = at_member q b more in
            let last = last_at m b change-within changed-here.1 in
            let upper = number-within m b change-within changed-here.1 in
            IsChange-among m m b change-within (omega (arith, change-above)) changed-here.1 (elim (cases_lt x m) [
              | inl fell ↦
                  absurd (both_ways _ (steady_before.none (addr - addr % 8 + b) (x - 1) no_write (omega (arith, changed-here.1)) (omega (arith, changed-here.2)) (omega (arith, changed-here.2)))
                  (subst (λ n. covers (addr - addr % 8 + b) (get_or writes (n - 1) no_write) ≡ true) here (last.hit no_write (omega (arith, here, changed-here.2)))))
              | inr rose ↦ omega (arith, here, upper)
            ])
