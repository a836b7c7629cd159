-- The records of one hart among those of a file.
use Rattle.std.proofs.Common.{ℕ, ◌≡◌, ◌≤◌, ◌==◌, Bool, true, false, List, [], ◌∷◌, filter, refl, sym, subst, inl, inr, nat_le, arith}
use Rattle.std.specs.List.{list_all}
use Rattle.std.proofs.lemmas.Bool.{and_parts, and_from, cases_Bool, cond-true, cond-false, eqb-true, eqb-false, eq-eqb, ne_eqb, leb-true, le-leb}
use Rattle.dt_record.specs.declared.records.Record.{Record}
use Rattle.dt_record.specs.Keys.{records_of}
use Rattle.dt_record.specs.Lawful.{is_lawful}
use Rattle.dt_record.specs.ProbeFile.{AreRecords, no_stamps, stamped}
use Rattle.dt_hart.specs.OwnWrites.{are_of, are_rising}
use Rattle.dt_writes.specs.Laws.{OwnWritesAreOfRecords, WritesStandInOrder}
use Rattle.dt_runs.specs.Laws.{FileRecordsAreOwn}

all_of : (hart : ℕ) (rs : List Record) → are_of hart (records_of hart rs) ≡ true
all_of hart [] = refl
all_of hart (r ∷ rs) = elim (cases_Bool (r.hart == hart)) [
  | inl own ↦ rw own (and_from (r.hart == hart) (are_of hart (records_of hart rs)) own (all_of hart rs))
  | inr other ↦ rw other (all_of hart rs)
]

all_kept : (p q : Record → Bool) (rs : List Record) → list_all p rs ≡ true → list_all p (filter q rs) ≡ true
all_kept p q [] all = refl
all_kept p q (r ∷ rs) all =
    let parts = and_parts (p r) (list_all p rs) all in
    elim (cases_Bool (q r)) [
      | inl kept ↦ rw kept (and_from (p r) (list_all p (filter q rs)) parts.0 (all_kept p q rs parts.1))
      | inr dropped ↦ rw dropped (all_kept p q rs parts.1)
    ]

later_than : (n m : ℕ) (rs : List Record) → n ≤ m → list_all (λ (q : Record). nat_le m q.stamp) rs ≡ true → list_all (λ (q : Record). nat_le n q.stamp) rs ≡ true
later_than n m [] below all = refl
later_than n m (r ∷ rs) below all =
    let parts = and_parts (nat_le m r.stamp) (list_all (λ (q : Record). nat_le m q.stamp) rs) all in
    let first : m ≤ r.stamp = leb-true m r.stamp parts.0 in
    and_from (nat_le n r.stamp) (list_all (λ (q : Record). nat_le n q.stamp) rs) (le-leb n r.stamp (omega arith)) (later_than n m rs below parts.1)

-- a hart's records rise from the stamp that it had
pub record RisesFrom (stamp : ℕ) (own : List Record) : Type 0 where
  pub later : list_all (λ (q : Record). nat_le stamp q.stamp) own ≡ true
  pub rising : are_rising own ≡ true

rises : (harts : ℕ) (last : ℕ → ℕ) (hart : ℕ) (rs : List Record) → AreRecords harts last rs → RisesFrom (last hart) (records_of hart rs)
rises harts last hart [] are = record { later = refl; rising = refl }
rises harts last hart (r ∷ rs) are =
    let rest = rises harts (stamped last r) hart rs are.1 in
    let own = records_of hart rs in
    elim (cases_Bool (r.hart == hart)) [
      | inl its ↦
          let same : r.hart ≡ hart = eqb-true r.hart hart its in
          let now : stamped last r hart ≡ r.stamp = cond-true (hart == r.hart) r.stamp (last hart) (eq-eqb hart r.hart (sym same)) in
          let before : last hart ≤ r.stamp = subst (λ h. last h ≤ r.stamp) same are.0.stamp in
          let after = subst (λ n. RisesFrom n own) now rest in
          subst (RisesFrom (last hart)) (sym (cond-true (r.hart == hart) (r ∷ own) own its))
          (record {
            later = and_from (nat_le (last hart) r.stamp) (list_all (λ (q : Record). nat_le (last hart) q.stamp) own) (le-leb (last hart) r.stamp before) (later_than (last hart) r.stamp own before after.later);
            rising = and_from (list_all (λ (q : Record). nat_le r.stamp q.stamp) own) (are_rising own) after.later after.rising;
          })
      | inr other ↦
          let turned : (hart == r.hart) ≡ false = ne_eqb hart r.hart (λ e. eqb-false r.hart hart other (sym e)) in
          let still : stamped last r hart ≡ last hart = cond-false (hart == r.hart) r.stamp (last hart) turned in
          subst (RisesFrom (last hart)) (sym (cond-false (r.hart == hart) (r ∷ own) own other)) (subst (λ n. RisesFrom n own) still rest)
    ]

-- each record of a file is lawful
all_lawful : (harts : ℕ) (last : ℕ → ℕ) (rs : List Record) → AreRecords harts last rs → list_all is_lawful rs ≡ true
all_lawful harts last [] are = refl
all_lawful harts last (r ∷ rs) are = and_from (is_lawful r) (list_all is_lawful rs) are.0.lawful (all_lawful harts (stamped last r) rs are.1)

pub file_records_are_own : OwnWritesAreOfRecords → WritesStandInOrder → FileRecordsAreOwn
file_records_are_own own in_order records hart file = record {
  its = all_of hart records;
  rising = (rises file.harts no_stamps hart records file.each).rising;
  lawful = all_kept is_lawful (λ r. r.hart == hart) records (all_lawful file.harts no_stamps records file.each);
  in_order = in_order records;
  same = own records hart file;
}
