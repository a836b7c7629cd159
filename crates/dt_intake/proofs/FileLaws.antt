use Rattle.std.proofs.Common.{ℕ, ◌≡◌, ◌+◌, ◌≤◌, ◌==◌, suc, List, [], ◌∷◌, ◌++◌, length, drop, nat_lt, nat_le, refl, sym, ap, ◌∙◌, subst, inl, inr, arith, eq-eqb, eqb-true}
use Rattle.std.specs.List.{list_all}
use Rattle.std.proofs.lemmas.Bool.{cases_Bool, cond-true, cond-false, eqb-false, ne_eqb}
use Rattle.std.proofs.lemmas.List.{append_assoc, append-nil, take-append-drop}
use Rattle.std.proofs.lemmas.List.Elements.{filter-append}
use mathlib.Core.List.{IsPrefix}
use Rattle.dt_lists.proofs.Lists.{filter-kept, filter-dropped, filter-within}
use Rattle.dt_record.specs.declared.limits.TheConstants.{RECORD_LIMIT}
use Rattle.dt_record.specs.declared.records.Record.{Record}
use Rattle.dt_record.specs.declared.writes.Write.{Write}
use Rattle.dt_record.specs.Keys.{records_of}
use Rattle.dt_record.specs.ProbeFile.{AreRecords, stamped, no_stamps}
use Rattle.dt_writes.specs.OwnWrites.{own_writes_from}
use Rattle.dt_core.specs.Notes.{announced, hart_writes, writes_below}
use Rattle.dt_core.specs.Sound.{writes_by}
use Rattle.dt_intake.specs.Fronts.{stamp_after, MayBeNext, front_after, usable_front}
use Rattle.dt_intake.specs.Intakes.{IntakeView, usable_of}
use Rattle.dt_intake.specs.Told.{told_of, IsMarked}
use Rattle.dt_intake.specs.Laws.{FileRecordsAreUsable, ToldIsAnnounced}
use Rattle.dt_intake.proofs.FrontLaws.{last_stamp-push, may_be_next-true, front_after-pass, front_after-begins, front_after-behind, late-front_after, own-front_after}
use Rattle.dt_intake.proofs.WriteLaws.{own_writes_from-append, own_writes_from-parts, below-own_writes_from, own-writes_by}

-- What notes tell of a hart whose records are those of a file.

-- the records of a hart in a file are usable
front-records_of : (harts hart seq stamp : ℕ) (last : ℕ → ℕ) (rs : List Record) → AreRecords harts last rs → stamp ≡ last hart
    → seq + length (records_of hart rs) ≤ RECORD_LIMIT → front_after hart seq stamp (records_of hart rs) ≡ records_of hart rs
front-records_of harts hart seq stamp last [] each is few = refl
front-records_of harts hart seq stamp last (r ∷ rs) each is few = elim (cases_Bool (r.hart == hart)) [
  | inl own ↦
      let same : r.hart ≡ hart = eqb-true r.hart hart own in
      let pass : records_of hart (r ∷ rs) ≡ r ∷ records_of hart rs = filter-kept (λ (q : Record). q.hart == hart) r rs own in
      let count : length (records_of hart (r ∷ rs)) ≡ suc (length (records_of hart rs)) = ap length pass in
      let here : stamped last r hart ≡ r.stamp = cond-true (hart == r.hart) r.stamp (last hart) (eq-eqb hart r.hart (sym same)) in
      let before : last hart ≤ r.stamp = subst (λ (h : ℕ). last h ≤ r.stamp) same each.0.stamp in
      let next : MayBeNext hart seq stamp r = record { number = omega arith; lawful = each.0.lawful; its = same; in_time = omega arith } in
      ap (front_after hart seq stamp) pass
      ∙ front_after-pass hart seq stamp r (records_of hart rs) (may_be_next-true hart seq stamp r next)
      ∙ ap (λ (l : List Record). r ∷ l) (front-records_of harts hart (seq + 1) r.stamp (stamped last r) rs each.1 (sym here) (omega arith))
      ∙ sym pass
  | inr other ↦
      let none : records_of hart (r ∷ rs) ≡ records_of hart rs = filter-dropped (λ (q : Record). q.hart == hart) r rs other in
      let count : length (records_of hart (r ∷ rs)) ≡ length (records_of hart rs) = ap length none in
      let still : stamped last r hart ≡ last hart =
      cond-false (hart == r.hart) r.stamp (last hart) (ne_eqb hart r.hart (λ same. eqb-false r.hart hart other (sym same))) in
      ap (front_after hart seq stamp) none
      ∙ front-records_of harts hart seq stamp (stamped last r) rs each.1 (is ∙ sym still) (omega arith)
      ∙ sym none
]

usable-records_of : (harts hart : ℕ) (file : List Record) → AreRecords harts no_stamps file → length file ≤ RECORD_LIMIT
    → front_after hart 0 0 (records_of hart file) ≡ records_of hart file
usable-records_of harts hart file each few =
    let size : length (records_of hart file) ≤ length file = filter-within (λ (r : Record). r.hart == hart) file in
    front-records_of harts hart 0 0 no_stamps file each refl (omega arith)

-- the first of usable records are
usable-first : (hart : ℕ) (taken records : List Record) → front_after hart 0 0 records ≡ records → IsPrefix taken records → usable_front hart taken ≡ taken
usable-first hart taken records usable first =
    front_after-begins hart 0 0 taken first.0 (ap (front_after hart 0 0) first.1 ∙ usable ∙ sym first.1)

pub FileRecords-usable : FileRecordsAreUsable
FileRecords-usable harts hart file taken each few first = usable-first hart taken (records_of hart file) (usable-records_of harts hart file each few) first

-- Of a hart with these records the first were taken, and all are usable.
record IsWhole (v : IntakeView) (records : List Record) : Type 0 where
  first : IsPrefix v.taken records
  usable : front_after v.hart 0 0 records ≡ records

IsWhole-taken : (v : IntakeView) (records : List Record) → IsWhole v records → usable_of v ≡ v.taken
IsWhole-taken v records whole = usable-first v.hart v.taken records whole.usable whole.first

own-from_front : (hart : ℕ) (rs : List Record) → front_after hart 0 0 rs ≡ rs → writes_by rs ≡ own_writes_from 0 rs
own-from_front hart rs whole =
    own-writes_by hart rs (ap (list_all (λ (r : Record). r.hart == hart)) (sym whole) ∙ own-front_after hart 0 0 rs)

-- where the first of usable records end with one of this cycle, those behind write nothing below it
below-front : (hart stamp : ℕ) (first rest : List Record) → front_after hart 0 0 (first ++ rest) ≡ first ++ rest → stamp_after 0 first ≡ stamp
    → writes_below stamp (own_writes_from 0 first) ≡ writes_below stamp (writes_by (first ++ rest))
below-front hart stamp first rest usable last =
    let behind = front_after-behind hart 0 0 first rest usable in
    let late = ap (list_all (λ (r : Record). nat_le stamp r.stamp)) (sym behind)
    ∙ late-front_after stamp hart (0 + length first) (stamp_after 0 first) rest (omega arith) in
    let more = own_writes_from (0 + length first) rest in
    let none : writes_below stamp more ≡ [] = below-own_writes_from stamp (0 + length first) rest late in
    sym (ap (writes_below stamp) (own-from_front hart (first ++ rest) usable ∙ own_writes_from-append 0 first rest)
    ∙ filter-append (λ (w : Write). nat_lt w.key.stamp stamp) (own_writes_from 0 first) more
    ∙ ap (λ (ws : List Write). writes_below stamp (own_writes_from 0 first) ++ ws) none
    ∙ append-nil (writes_below stamp (own_writes_from 0 first)))

marked-below : (v : IntakeView) (records : List Record) (stamp : ℕ) (writes : List Write) → IsWhole v records → IsMarked (told_of v) stamp writes
    → writes_below stamp writes ≡ writes_below stamp (writes_by records)
marked-below v records stamp writes whole m =
    let fresh = drop v.told (usable_of v) in
    let later = whole.first.0 in
    let front = m.first ++ m.last ∷ [] in
    let rest = m.more ++ (fresh ++ later) in
    let split : front ++ rest ≡ records =
    append_assoc m.first (m.last ∷ []) rest
    ∙ sym (append_assoc m.first (m.last ∷ m.more) (fresh ++ later))
    ∙ ap (λ (l : List Record). l ++ (fresh ++ later)) (sym m.split)
    ∙ sym (append_assoc (told_of v) fresh later)
    ∙ ap (λ (l : List Record). l ++ later) (take-append-drop v.told (usable_of v) ∙ IsWhole-taken v records whole)
    ∙ whole.first.1 in
    let usable = ap (front_after v.hart 0 0) split ∙ whole.usable ∙ sym split in
    ap (writes_below stamp) m.its_writes
    ∙ below-front v.hart stamp front rest usable (last_stamp-push 0 m.first m.last ∙ m.its_stamp)
    ∙ ap (λ (rs : List Record). writes_below stamp (writes_by rs)) split

pub Told-announced : ToldIsAnnounced
Told-announced harts file v notes each few first all told =
    let records = records_of v.hart file in
    let usable = usable-records_of harts v.hart file each few in
    let whole : IsWhole v records = record { first = first; usable = usable } in
    let taken = IsWhole-taken v records whole in
    record {
      wrote = (
        own_writes_from v.told (drop v.told (usable_of v)),
        ap (λ (ws : List Write). ws ++ own_writes_from v.told (drop v.told (usable_of v))) told.wrote
            ∙ own_writes_from-parts v.told (usable_of v) told.within ∙ ap (own_writes_from 0) taken ∙ sym (own-from_front v.hart v.taken taken),
      );
      marks = λ before after stamp is.
          marked-below v records stamp (hart_writes v.hart (announced before)) whole (told.marks before after stamp is);
      ends = λ before after is.
          let over = told.ends before after is in
          over.its_writes ∙ ap (own_writes_from 0) (all over.ended_is) ∙ sym (own-from_front v.hart records usable);
    }
