use Rattle.std.proofs.Common.{◌≡◌, ℕ, ◌+◌, ◌<◌, ◌≤◌, Bool, true, false, cond, ◌==◌, List, [], ◌∷◌, ◌++◌, length, get_or, take, filter, refl, sym, ap, ◌∙◌, subst, inl, inr, Option, arith, append_assoc, length-take}
use Rattle.std.specs.Prelude.{if◌then◌else◌}
use Rattle.std.proofs.lemmas.Bool.{cases_Bool, cond-true, cond-false}
use Rattle.std.proofs.lemmas.List.{append-nil}
use Rattle.std.proofs.lemmas.List.Elements.{filter_more}
use Rattle.dt_record.specs.declared.keys.Key.{Key}
use Rattle.dt_record.specs.declared.records.Record.{Record}
use Rattle.dt_record.specs.Keys.{key_of, records_of}
use Rattle.dt_record.specs.Writes.{writes_memory}
use Rattle.dt_verdict.specs.declared.tallies.Counts.{Counts}
use Rattle.dt_tallies.specs.Counting.{is_below, below_from, is_retired, is_trap, is_load, is_store, is_atomic, is_drain, counts_among, counts_of, one_if, with_record, AreAtMost}

-- What a report counts, record by record.

one_filtered : (p : Record → Bool) (rs : List Record) (r : Record) → length (filter p (rs ++ r ∷ [])) ≡ length (filter p rs) + one_if (p r)
one_filtered p [] r = elim (cases_Bool (p r)) [
  | inl passes ↦ let here = ap length (cond-true (p r) (r ∷ []) [] passes) in let one = cond-true {A = ℕ} (p r) 1 0 passes in omega arith
  | inr fails ↦ let here = ap length (cond-false (p r) (r ∷ []) [] fails) in let one = cond-false {A = ℕ} (p r) 1 0 fails in omega arith
]
one_filtered p (x ∷ xs) r =
    let rest = one_filtered p xs r in
    elim (cases_Bool (p x)) [
      | inl passes ↦
          let more = ap length (cond-true (p x) (x ∷ filter p (xs ++ r ∷ [])) (filter p (xs ++ r ∷ [])) passes) in
          let here = ap length (cond-true (p x) (x ∷ filter p xs) (filter p xs) passes) in
          omega arith
      | inr fails ↦
          let more = ap length (cond-false (p x) (x ∷ filter p (xs ++ r ∷ [])) (filter p (xs ++ r ∷ [])) fails) in
          let here = ap length (cond-false (p x) (x ∷ filter p xs) (filter p xs) fails) in
          omega arith
    ]

few_filtered : (p : Record → Bool) (rs : List Record) → length (filter p rs) ≤ length rs
few_filtered p [] = omega arith
few_filtered p (x ∷ xs) =
    let rest = few_filtered p xs in
    elim (cases_Bool (p x)) [
      | inl passes ↦ let here = ap length (cond-true (p x) (x ∷ filter p xs) (filter p xs) passes) in omega arith
      | inr fails ↦ let here = ap length (cond-false (p x) (x ∷ filter p xs) (filter p xs) fails) in omega arith
    ]

one_longer : (rs : List Record) (r : Record) → length (rs ++ r ∷ []) ≡ length rs + 1
one_longer [] r = refl
one_longer (x ∷ xs) r = let rest = one_longer xs r in omega arith

counts_among-push : (rs : List Record) (r : Record) → counts_among (rs ++ r ∷ []) ≡ with_record (counts_among rs) r
counts_among-push rs r =
    rw (
      one_longer rs r,
      one_filtered writes_memory rs r,
      one_filtered (λ x. is_retired x.body) rs r,
      one_filtered (λ x. is_trap x.body) rs r,
      one_filtered (λ x. is_load x.body) rs r,
      one_filtered (λ x. is_store x.body) rs r,
      one_filtered (λ x. is_atomic x.body) rs r,
      one_filtered (λ x. is_drain x.body) rs r,
    ) refl

below_from-cons : (limit : Option Key) (seq : ℕ) (x : Record) (xs : List Record)
    → below_from limit seq (x ∷ xs) ≡ cond (is_below limit (key_of seq x)) (x ∷ []) [] ++ below_from limit (seq + 1) xs
below_from-cons limit seq x xs = elim (cases_Bool (is_below limit (key_of seq x))) [
  | inl below ↦
      cond-true (is_below limit (key_of seq x)) (x ∷ below_from limit (seq + 1) xs) (below_from limit (seq + 1) xs) below
      ∙ ap (λ l. l ++ below_from limit (seq + 1) xs) (sym (cond-true (is_below limit (key_of seq x)) (x ∷ []) [] below))
  | inr above ↦
      cond-false (is_below limit (key_of seq x)) (x ∷ below_from limit (seq + 1) xs) (below_from limit (seq + 1) xs) above
      ∙ ap (λ l. l ++ below_from limit (seq + 1) xs) (sym (cond-false (is_below limit (key_of seq x)) (x ∷ []) [] above))
]

below_from-push : (limit : Option Key) (seq : ℕ) (rs : List Record) (r : Record)
    → below_from limit seq (rs ++ r ∷ []) ≡ below_from limit seq rs ++ cond (is_below limit (key_of (seq + length rs) r)) (r ∷ []) []
below_from-push limit seq [] r =
    let none : seq + 0 ≡ seq = omega arith in
    ap (λ n. cond (is_below limit (key_of n r)) (r ∷ []) []) (sym none)
below_from-push limit seq (x ∷ xs) r =
    let rest = below_from limit (seq + 1) xs in
    let more : seq + 1 + length xs ≡ seq + length (x ∷ xs) = omega arith in
    below_from-cons limit seq x (xs ++ r ∷ [])
    ∙ ap (λ l. cond (is_below limit (key_of seq x)) (x ∷ []) [] ++ l) (below_from-push limit (seq + 1) xs r)
    ∙ sym (append_assoc (cond (is_below limit (key_of seq x)) (x ∷ []) []) rest (cond (is_below limit (key_of (seq + 1 + length xs) r)) (r ∷ []) []))
    ∙ ap (λ l. l ++ cond (is_below limit (key_of (seq + 1 + length xs) r)) (r ∷ []) []) (sym (below_from-cons limit seq x xs))
    ∙ ap (λ n. below_from limit seq (x ∷ xs) ++ cond (is_below limit (key_of n r)) (r ∷ []) []) more

few_below : (limit : Option Key) (seq : ℕ) (rs : List Record) → length (below_from limit seq rs) ≤ length rs
few_below limit seq [] = omega arith
few_below limit seq (x ∷ xs) =
    let rest = few_below limit (seq + 1) xs in
    elim (cases_Bool (is_below limit (key_of seq x))) [
      | inl below ↦ let here = ap length (cond-true (is_below limit (key_of seq x)) (x ∷ below_from limit (seq + 1) xs) (below_from limit (seq + 1) xs) below) in omega arith
      | inr above ↦ let here = ap length (cond-false (is_below limit (key_of seq x)) (x ∷ below_from limit (seq + 1) xs) (below_from limit (seq + 1) xs) above) in omega arith
    ]

-- the counts with the next record of a hart
counts_of-push : (limit : Option Key) (rs : List Record) (r : Record)
    → counts_of limit (rs ++ r ∷ []) ≡ (if is_below limit (key_of (length rs) r) then with_record (counts_of limit rs) r else counts_of limit rs)
counts_of-push limit rs r =
    let before = below_from limit 0 rs in
    let start : 0 + length rs ≡ length rs = omega arith in
    let here = below_from-push limit 0 rs r ∙ ap (λ n. before ++ cond (is_below limit (key_of n r)) (r ∷ []) []) start in
    ap counts_among here
    ∙ elim (cases_Bool (is_below limit (key_of (length rs) r))) [
      | inl below ↦
          ap (λ l. counts_among (before ++ l)) (cond-true (is_below limit (key_of (length rs) r)) (r ∷ []) [] below)
          ∙ counts_among-push before r
          ∙ sym (cond-true (is_below limit (key_of (length rs) r)) (with_record (counts_of limit rs) r) (counts_of limit rs) below)
      | inr above ↦
          ap (λ l. counts_among (before ++ l)) (cond-false (is_below limit (key_of (length rs) r)) (r ∷ []) [] above)
          ∙ ap counts_among (append-nil before)
          ∙ sym (cond-false (is_below limit (key_of (length rs) r)) (with_record (counts_of limit rs) r) (counts_of limit rs) above)
    ]

AreAtMost-among : (most : ℕ) (rs : List Record) → length rs ≤ most → AreAtMost most (counts_among rs)
AreAtMost-among most rs few = record {
  records = few;
  writes = omega (arith, few_filtered writes_memory rs);
  retired = omega (arith, few_filtered (λ x. is_retired x.body) rs);
  traps = omega (arith, few_filtered (λ x. is_trap x.body) rs);
  loads = omega (arith, few_filtered (λ x. is_load x.body) rs);
  stores = omega (arith, few_filtered (λ x. is_store x.body) rs);
  atomics = omega (arith, few_filtered (λ x. is_atomic x.body) rs);
  drains = omega (arith, few_filtered (λ x. is_drain x.body) rs);
}

-- what is counted of the first records of a file
pub record Counted (limit : Option Key) (hart : ℕ) (records : List Record) (counts : Counts) (seq : ℕ) : Type 0 where
  pub are : counts ≡ counts_of limit (records_of hart records)
  pub had : seq ≡ length (records_of hart records)

pub Counted-own : (limit : Option Key) (hart : ℕ) (records : List Record) (i : ℕ) (d : Record) (counts next : Counts) (seq : ℕ) → i < length records
    → ((get_or records i d).hart == hart) ≡ true
    → next ≡ (if is_below limit (key_of seq (get_or records i d)) then with_record counts (get_or records i d) else counts)
    → Counted limit hart (take i records) counts seq → Counted limit hart (take (i + 1) records) next (seq + 1)
Counted-own limit hart records i d counts next seq within own is counted =
    let r = get_or records i d in
    let rs = records_of hart (take i records) in
    let more : records_of hart (take (i + 1) records) ≡ rs ++ r ∷ [] =
    filter_more (λ x. x.hart == hart) records i d within ∙ ap (λ l. rs ++ l) (cond-true (r.hart == hart) (r ∷ []) [] own) in
    record {
      are =
          is
          ∙ ap (λ n. if is_below limit (key_of n r) then with_record counts r else counts) counted.had
          ∙ ap (λ (c : Counts). if is_below limit (key_of (length rs) r) then with_record c r else c) counted.are
          ∙ sym (counts_of-push limit rs r)
          ∙ ap (counts_of limit) (sym more);
      had = let longer = one_longer rs r in let it = ap length more in omega (arith, counted.had);
    }

pub Counted-foreign : (limit : Option Key) (hart : ℕ) (records : List Record) (i : ℕ) (d : Record) (counts : Counts) (seq : ℕ) → i < length records
    → ((get_or records i d).hart == hart) ≡ false
    → Counted limit hart (take i records) counts seq → Counted limit hart (take (i + 1) records) counts seq
Counted-foreign limit hart records i d counts seq within foreign counted =
    let r = get_or records i d in
    let rs = records_of hart (take i records) in
    let same : records_of hart (take (i + 1) records) ≡ rs =
    filter_more (λ x. x.hart == hart) records i d within ∙ ap (λ l. rs ++ l) (cond-false (r.hart == hart) (r ∷ []) [] foreign) ∙ append-nil rs in
    record {
      are = counted.are ∙ ap (counts_of limit) (sym same);
      had = counted.had ∙ ap length (sym same);
    }

few_records_of : (hart : ℕ) (rs : List Record) → length (records_of hart rs) ≤ length rs
few_records_of hart rs = few_filtered (λ x. x.hart == hart) rs

pub Counted-few : (limit : Option Key) (hart : ℕ) (records : List Record) (i most : ℕ) (counts : Counts) (seq : ℕ) → i ≤ most
    → Counted limit hart (take i records) counts seq → AreAtMost most counts × (seq ≤ most)
Counted-few limit hart records i most counts seq few counted =
    let rs = records_of hart (take i records) in
    let short : length rs ≤ most = omega (arith, few_records_of hart (take i records), length-take i records) in (
      subst (AreAtMost most) (sym counted.are) (AreAtMost-among most (below_from limit 0 rs) (omega (arith, few_below limit 0 rs))),
      omega (arith, counted.had),
    )
