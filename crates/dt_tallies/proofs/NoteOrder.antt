use Rattle.std.proofs.Common.{◌≡◌, Bool, true, false, cond, not, List, [], ◌∷◌, filter, refl, sym, ap, ◌∙◌, inl, inr}
use Rattle.std.specs.List.{list_all}
use Rattle.std.specs.List.Sorted.{ties}
use Rattle.std.proofs.lemmas.Bool.{and_parts, and_from, cases_Bool, cond-true, cond-false, not-true, not_from_false, both_ways}
use Rattle.dt_record.proofs.KeyChains.{key_not_below-chain}
use Rattle.dt_record.specs.declared.keys.Key.{Key}
use Rattle.dt_record.specs.Keys.{key_below}
use Rattle.dt_record.proofs.KeyLaws.{key_below-back}
use Rattle.dt_verdict.specs.declared.tallies.Noted.{Noted}
use Rattle.dt_tallies.specs.Naming.{insert_note, notes_by_key}
use Rattle.dt_writes.specs.KeyOrder.{under, keys_rise}

-- Notes sorted by insertion, which keeps the order of those with one key.

abbrev pub note_key : Noted → Key
note_key n = n.key

abbrev pub tie : Noted → Noted → Bool
tie = ties (under note_key)

weaker : (p q : Noted → Bool) (ns : List Noted) → ((n : Noted) → p n ≡ true → q n ≡ true) → list_all p ns ≡ true → list_all q ns ≡ true
weaker p q [] each all = refl
weaker p q (n ∷ ns) each all =
    let parts = and_parts (p n) (list_all p ns) all in
    and_from (q n) (list_all q ns) (each n parts.0) (weaker p q ns each parts.1)

inserted-later : (n m : Noted) (ms : List Noted) → key_below m.key n.key ≡ true → insert_note n (m ∷ ms) ≡ m ∷ insert_note n ms
inserted-later n m ms below = cond-true _ _ _ below

inserted-first : (n m : Noted) (ms : List Noted) → key_below m.key n.key ≡ false → insert_note n (m ∷ ms) ≡ n ∷ m ∷ ms
inserted-first n m ms above = cond-false _ _ _ above

list_all-insert : (p : Noted → Bool) (n : Noted) (ms : List Noted) → p n ≡ true → list_all p ms ≡ true → list_all p (insert_note n ms) ≡ true
list_all-insert p n [] here all = and_from (p n) true here refl
list_all-insert p n (m ∷ ms) here all = elim (cases_Bool (key_below m.key n.key)) [
  | inl below ↦
      let parts = and_parts (p m) (list_all p ms) all in
      ap (list_all p) (inserted-later n m ms below) ∙ and_from (p m) (list_all p (insert_note n ms)) parts.0 (list_all-insert p n ms here parts.1)
  | inr above ↦ ap (list_all p) (inserted-first n m ms above) ∙ and_from (p n) (list_all p (m ∷ ms)) here all
]

rises-insert : (n : Noted) (ms : List Noted) → keys_rise note_key ms ≡ true → keys_rise note_key (insert_note n ms) ≡ true
rises-insert n [] rise = refl
rises-insert n (m ∷ ms) rise =
    let parts = and_parts (list_all (λ y. not (under note_key y m)) ms) (keys_rise note_key ms) rise in
    elim (cases_Bool (key_below m.key n.key)) [
      | inl below ↦
          ap (keys_rise note_key) (inserted-later n m ms below)
          ∙ and_from (list_all (λ y. not (under note_key y m)) (insert_note n ms)) (keys_rise note_key (insert_note n ms))
          (list_all-insert (λ y. not (under note_key y m)) n ms (not_from_false _ (key_below-back m.key n.key below)) parts.0)
          (rises-insert n ms parts.1)
      | inr above ↦
          ap (keys_rise note_key) (inserted-first n m ms above)
          ∙ and_from (list_all (λ y. not (under note_key y n)) (m ∷ ms)) (keys_rise note_key (m ∷ ms))
          (and_from (not (under note_key m n)) (list_all (λ y. not (under note_key y n)) ms) (not_from_false _ above)
          (weaker (λ y. not (under note_key y m)) (λ y. not (under note_key y n)) ms
          (λ y high. not_from_false _ (key_not_below-chain y.key m.key n.key (not-true _ high) above)) parts.0))
          rise
    ]

pub rises-notes_by_key : (ns : List Noted) → keys_rise note_key (notes_by_key ns) ≡ true
rises-notes_by_key [] = refl
rises-notes_by_key (n ∷ ns) = rises-insert n (notes_by_key ns) (rises-notes_by_key ns)

-- of two notes that tie with a third, none stands before the other
tied-same : (x m n : Noted) → tie x m ≡ true → tie x n ≡ true → key_below m.key n.key ≡ false
tied-same x m n first second =
    let tied_m = and_parts (not (under note_key x m)) (not (under note_key m x)) first in
    let tied_n = and_parts (not (under note_key x n)) (not (under note_key n x)) second in
    key_not_below-chain m.key x.key n.key (not-true _ tied_m.1) (not-true _ tied_n.0)

filter-insert : (x n : Noted) (ms : List Noted) → filter (tie x) (insert_note n ms) ≡ filter (tie x) (n ∷ ms)
filter-insert x n [] = refl
filter-insert x n (m ∷ ms) = elim (cases_Bool (key_below m.key n.key)) [
  | inr above ↦ ap (filter (tie x)) (inserted-first n m ms above)
  | inl below ↦
      ap (filter (tie x)) (inserted-later n m ms below)
      ∙ elim (cases_Bool (tie x m)) [
        | inl with ↦ elim (cases_Bool (tie x n)) [
          | inl both ↦ absurd (both_ways (key_below m.key n.key) (tied-same x m n with both) below)
          | inr only ↦
              cond-true (tie x m) _ _ with ∙ ap (λ l. m ∷ l) (filter-insert x n ms ∙ cond-false (tie x n) _ _ only)
              ∙ sym (cond-false (tie x n) (n ∷ filter (tie x) (m ∷ ms)) (filter (tie x) (m ∷ ms)) only ∙ cond-true (tie x m) (m ∷ filter (tie x) ms) (filter (tie x) ms) with)
        ]
        | inr without ↦
            cond-false (tie x m) _ _ without ∙ filter-insert x n ms
            ∙ ap (λ l. cond (tie x n) (n ∷ l) l) (sym (cond-false (tie x m) (m ∷ filter (tie x) ms) (filter (tie x) ms) without))
      ]
]

pub filter-notes_by_key : (x : Noted) (ns : List Noted) → filter (tie x) (notes_by_key ns) ≡ filter (tie x) ns
filter-notes_by_key x [] = refl
filter-notes_by_key x (n ∷ ns) = filter-insert x n (notes_by_key ns) ∙ ap (λ l. cond (tie x n) (n ∷ l) l) (filter-notes_by_key x ns)
