use Rattle.std.proofs.Common.{◌≡◌, Bool, true, false, cond, not, List, [], ◌∷◌, filter, refl, sym, ap, ◌∙◌, inl, inr}
use Rattle.std.specs.List.{list_all}
use Rattle.std.specs.List.Sorted.{ties}
use Rattle.std.proofs.lemmas.Bool.{and_parts, and_from, cases_Bool, cond-true, cond-false, not-true, not_from_false, both_ways}
use Rattle.dt_record.proofs.KeyChains.{key_not_below-chain}
use Rattle.dt_record.specs.Keys.{key_below}
use Rattle.dt_record.proofs.KeyLaws.{key_below-back}
use Rattle.dt_writes.specs.KeyOrder.{under, keys_rise}
use Rattle.dt_kept.specs.declared.traces.Traced.{Traced}
use Rattle.dt_kept.specs.Traces.{insert_traced, traced_by_key, traced_key}

-- Traced records sorted by insertion, which keeps the order of those with one key.

abbrev pub tie : Traced → Traced → Bool
tie = ties (under traced_key)

weaker : (p q : Traced → Bool) (ns : List Traced) → ((n : Traced) → p n ≡ true → q n ≡ true) → list_all p ns ≡ true → list_all q ns ≡ true
weaker p q [] each all = refl
weaker p q (n ∷ ns) each all =
    let parts = and_parts (p n) (list_all p ns) all in
    and_from (q n) (list_all q ns) (each n parts.0) (weaker p q ns each parts.1)

inserted-later : (n m : Traced) (ms : List Traced) → key_below (traced_key m) (traced_key n) ≡ true → insert_traced n (m ∷ ms) ≡ m ∷ insert_traced n ms
inserted-later n m ms below = cond-true _ _ _ below

inserted-first : (n m : Traced) (ms : List Traced) → key_below (traced_key m) (traced_key n) ≡ false → insert_traced n (m ∷ ms) ≡ n ∷ m ∷ ms
inserted-first n m ms above = cond-false _ _ _ above

list_all-insert : (p : Traced → Bool) (n : Traced) (ms : List Traced) → p n ≡ true → list_all p ms ≡ true → list_all p (insert_traced n ms) ≡ true
list_all-insert p n [] here all = and_from (p n) true here refl
list_all-insert p n (m ∷ ms) here all = elim (cases_Bool (key_below (traced_key m) (traced_key n))) [
  | inl below ↦
      let parts = and_parts (p m) (list_all p ms) all in
      ap (list_all p) (inserted-later n m ms below) ∙ and_from (p m) (list_all p (insert_traced n ms)) parts.0 (list_all-insert p n ms here parts.1)
  | inr above ↦ ap (list_all p) (inserted-first n m ms above) ∙ and_from (p n) (list_all p (m ∷ ms)) here all
]

rises-insert : (n : Traced) (ms : List Traced) → keys_rise traced_key ms ≡ true → keys_rise traced_key (insert_traced n ms) ≡ true
rises-insert n [] rise = refl
rises-insert n (m ∷ ms) rise =
    let parts = and_parts (list_all (λ y. not (under traced_key y m)) ms) (keys_rise traced_key ms) rise in
    elim (cases_Bool (key_below (traced_key m) (traced_key n))) [
      | inl below ↦
          ap (keys_rise traced_key) (inserted-later n m ms below)
          ∙ and_from (list_all (λ y. not (under traced_key y m)) (insert_traced n ms)) (keys_rise traced_key (insert_traced n ms))
          (list_all-insert (λ y. not (under traced_key y m)) n ms (not_from_false _ (key_below-back (traced_key m) (traced_key n) below)) parts.0)
          (rises-insert n ms parts.1)
      | inr above ↦
          ap (keys_rise traced_key) (inserted-first n m ms above)
          ∙ and_from (list_all (λ y. not (under traced_key y n)) (m ∷ ms)) (keys_rise traced_key (m ∷ ms))
          (and_from (not (under traced_key m n)) (list_all (λ y. not (under traced_key y n)) ms) (not_from_false _ above)
          (weaker (λ y. not (under traced_key y m)) (λ y. not (under traced_key y n)) ms
          (λ y high. not_from_false _ (key_not_below-chain (traced_key y) (traced_key m) (traced_key n) (not-true _ high) above)) parts.0))
          rise
    ]

pub rises-traced_by_key : (ns : List Traced) → keys_rise traced_key (traced_by_key ns) ≡ true
rises-traced_by_key [] = refl
rises-traced_by_key (n ∷ ns) = rises-insert n (traced_by_key ns) (rises-traced_by_key ns)

-- of two notes that tie with a third, none stands before the other
tied-same : (x m n : Traced) → tie x m ≡ true → tie x n ≡ true → key_below (traced_key m) (traced_key n) ≡ false
tied-same x m n first second =
    let tied_m = and_parts (not (under traced_key x m)) (not (under traced_key m x)) first in
    let tied_n = and_parts (not (under traced_key x n)) (not (under traced_key n x)) second in
    key_not_below-chain (traced_key m) (traced_key x) (traced_key n) (not-true _ tied_m.1) (not-true _ tied_n.0)

filter-insert : (x n : Traced) (ms : List Traced) → filter (tie x) (insert_traced n ms) ≡ filter (tie x) (n ∷ ms)
filter-insert x n [] = refl
filter-insert x n (m ∷ ms) = elim (cases_Bool (key_below (traced_key m) (traced_key n))) [
  | inr above ↦ ap (filter (tie x)) (inserted-first n m ms above)
  | inl below ↦
      ap (filter (tie x)) (inserted-later n m ms below)
      ∙ elim (cases_Bool (tie x m)) [
        | inl with ↦ elim (cases_Bool (tie x n)) [
          | inl both ↦ absurd (both_ways (key_below (traced_key m) (traced_key n)) (tied-same x m n with both) below)
          | inr only ↦
              cond-true (tie x m) _ _ with ∙ ap (λ l. m ∷ l) (filter-insert x n ms ∙ cond-false (tie x n) _ _ only)
              ∙ sym (cond-false (tie x n) (n ∷ filter (tie x) (m ∷ ms)) (filter (tie x) (m ∷ ms)) only ∙ cond-true (tie x m) (m ∷ filter (tie x) ms) (filter (tie x) ms) with)
        ]
        | inr without ↦
            cond-false (tie x m) _ _ without ∙ filter-insert x n ms
            ∙ ap (λ l. cond (tie x n) (n ∷ l) l) (sym (cond-false (tie x m) (m ∷ filter (tie x) ms) (filter (tie x) ms) without))
      ]
]

pub filter-traced_by_key : (x : Traced) (ns : List Traced) → filter (tie x) (traced_by_key ns) ≡ filter (tie x) ns
filter-traced_by_key x [] = refl
filter-traced_by_key x (n ∷ ns) = filter-insert x n (traced_by_key ns) ∙ ap (λ l. cond (tie x n) (n ∷ l) l) (filter-traced_by_key x ns)
