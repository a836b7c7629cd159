use Rattle.std.proofs.Common.{◌≡◌, ℕ, zero, suc, ◌+◌, ◌<◌, ◌≤◌, ◌==◌, List, [], ◌++◌, length, get_or, drop, replicate, refl, sym, ap, ◌∙◌, subst, inl, inr, arith, add-one, append_assoc}
use Rattle.std.specs.Prelude.{option_to_list}
use Rattle.std.proofs.Math.ListN.{set}
use Rattle.std.proofs.Math.Path.{fun_ext}
use Rattle.std.proofs.Math.Seq.{drop-cons}
use Rattle.std.proofs.lemmas.Bool.{cases_Bool, cond-true, cond-false, eqb-true, eqb-false}
use Rattle.std.proofs.lemmas.List.{get_or-set_same, get_or-set_other, length-set, drop_all, append-nil}
use Rattle.dt_record.specs.declared.records.Record.{Record}
use Rattle.dt_record.specs.declared.records.Body.TheVariants.{Commit}
use Rattle.dt_record.specs.declared.writes.Write.{Write}
use Rattle.dt_record.specs.Writes.{write_of_record, counted, no_records, writes_after}

-- A list of writes and the numbers of records of eight harts, after the first i records.

-- the record that stands for one past the end
abbrev pub any_record : Record
any_record = record { stamp = 0; hart = 0; body = Commit (record { pc = 0; bits = 0; value = 0 }) }

-- the number of records that each hart has had
abbrev pub had : List ℕ → ℕ → ℕ
had seqs hart = get_or seqs hart 0

pub record Lists (records : List Record) (i : ℕ) (writes : List Write) (seqs : List ℕ) : Type 0 where
  pub so_far : writes ++ writes_after (had seqs) (drop i records) ≡ writes_after no_records records
  pub few : (hart : ℕ) → had seqs hart ≤ i
  pub eight : length seqs ≡ 8

zeros : (n hart : ℕ) → had (replicate n 0) hart ≡ 0
zeros zero hart = refl
zeros (suc n) zero = refl
zeros (suc n) (suc hart) = zeros n hart

pub Lists-start : (records : List Record) → Lists records 0 [] (replicate 8 0)
Lists-start records = record {
  so_far = ap (λ f. writes_after f records) (fun_ext (zeros 8));
  few = λ hart. let none = zeros 8 hart in omega arith;
  eight = refl;
}

had-set : (seqs : List ℕ) (r : Record) (hart : ℕ) → r.hart < length seqs → had (set seqs r.hart (had seqs r.hart + 1)) hart ≡ counted (had seqs) r hart
had-set seqs r hart within = elim (cases_Bool (hart == r.hart)) [
  | inl same ↦
      let e : hart ≡ r.hart = eqb-true hart r.hart same in
      ap (had (set seqs r.hart (had seqs r.hart + 1))) e ∙ get_or-set_same seqs r.hart (had seqs r.hart + 1) 0 within
      ∙ ap (λ h. had seqs h + 1) (sym e) ∙ sym (cond-true (hart == r.hart) (had seqs hart + 1) (had seqs hart) same)
  | inr other ↦
      get_or-set_other seqs r.hart hart (had seqs r.hart + 1) 0 (eqb-false hart r.hart other)
      ∙ sym (cond-false (hart == r.hart) (had seqs hart + 1) (had seqs hart) other)
]

few-set : (seqs : List ℕ) (r : Record) (i hart : ℕ) → r.hart < length seqs → ((h : ℕ) → had seqs h ≤ i) → had (set seqs r.hart (had seqs r.hart + 1)) hart ≤ i + 1
few-set seqs r i hart within few = elim (cases_Bool (hart == r.hart)) [
  | inl same ↦ let e = had-set seqs r hart within ∙ cond-true (hart == r.hart) (had seqs hart + 1) (had seqs hart) same in let f = few hart in omega arith
  | inr other ↦ let e = had-set seqs r hart within ∙ cond-false (hart == r.hart) (had seqs hart + 1) (had seqs hart) other in let f = few hart in omega arith
]

pub Lists-more : (records : List Record) (i : ℕ) (d : Record) (writes : List Write) (seqs : List ℕ) → i < length records
    → (get_or records i d).hart < 8 → Lists records i writes seqs
    → Lists records (i + 1) (writes ++ option_to_list (write_of_record (had seqs (get_or records i d).hart) (get_or records i d)))
    (set seqs (get_or records i d).hart (had seqs (get_or records i d).hart + 1))
Lists-more records i d writes seqs within small lists =
    let r = get_or records i d in
    let now = option_to_list (write_of_record (had seqs r.hart) r) in
    let next = set seqs r.hart (had seqs r.hart + 1) in
    let place : r.hart < length seqs = omega (arith, lists.eight) in
    record {
      so_far =
          append_assoc writes now (writes_after (had next) (drop (i + 1) records))
          ∙ ap (λ l. writes ++ (now ++ l))
          (ap (λ n. writes_after (had next) (drop n records)) (add-one i) ∙ ap (λ f. writes_after f (drop (suc i) records)) (fun_ext (λ hart. had-set seqs r hart place)))
          ∙ ap (λ l. writes ++ writes_after (had seqs) l) (sym (drop-cons records i d within))
          ∙ lists.so_far;
      few = λ hart. few-set seqs r i hart place lists.few;
      eight = length-set seqs r.hart (had seqs r.hart + 1) ∙ lists.eight;
    }

pub Lists-all : (records : List Record) (i : ℕ) (writes : List Write) (seqs : List ℕ) → length records ≤ i → Lists records i writes seqs
    → writes ≡ writes_after no_records records
Lists-all records i writes seqs past lists =
    sym (append-nil writes) ∙ ap (λ l. writes ++ writes_after (had seqs) l) (sym (drop_all i records past)) ∙ lists.so_far

-- one turn of the loop
pub Lists-next : (records : List Record) (i : ℕ) (d : Record) (writes next : List Write) (seqs : List ℕ) (hart : ℕ) → i < length records
    → hart ≡ (get_or records i d).hart → (get_or records i d).hart < 8
    → next ≡ writes ++ option_to_list (write_of_record (had seqs hart) (get_or records i d))
    → Lists records i writes seqs → Lists records (i + 1) next (set seqs hart (had seqs hart + 1))
Lists-next records i d writes next seqs hart within same small is lists =
    let r = get_or records i d in
    subst (λ (ws : List Write). Lists records (i + 1) ws (set seqs hart (had seqs hart + 1))) (sym is)
    (subst (λ h. Lists records (i + 1) (writes ++ option_to_list (write_of_record (had seqs h) r)) (set seqs h (had seqs h + 1))) (sym same)
    (Lists-more records i d writes seqs within small lists))
