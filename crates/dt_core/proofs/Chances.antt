use Rattle.std.proofs.Common.{ℕ, ◌≡◌, ◌+◌, ◌-◌, ◌<◌, ◌||◌, ◌⊎◌, Bool, true, false, Option, Some, None, List, [], ◌∷◌, ◌++◌, length, min, nat_lt, nat_le, zero, suc, refl, sym, ap, ◌∙◌, subst, inl, inr, arith}
use Rattle.std.specs.List.{slice_get}
use Rattle.std.proofs.lemmas.Bool.{and_parts, cases_Bool, cases_lt, cond-true, cond-false, both_ways, ltb-true, leb-true, lt-ltb}
use Rattle.dt_record.specs.declared.records.Record.{Record}
use Rattle.dt_record.specs.declared.writes.Write.{Write}
use Rattle.dt_record.specs.declared.writes.Note.{Note}
use Rattle.dt_record.specs.Keys.{key_of}
use Rattle.dt_record.specs.Writes.{by_key}
use Rattle.dt_versions.specs.History.{writes_until}
use Rattle.dt_core.specs.Judgements.{Meaning, AreAnswered, failure_from}
use Rattle.dt_core.specs.Machine.{usable_below, usable, has_failed}
use Rattle.dt_record.specs.Marks.{mark_of, has_ended, least_with, least_mark, CanJudge, can_judge}
use Rattle.dt_core.specs.Laws.{BelowMarkMayBeJudged}
use Rattle.dt_core.specs.Marks.{is_below}
use Rattle.dt_core.specs.Notes.{announced}
use Rattle.dt_core.proofs.Selection.{filter-narrow}

-- When a record may be judged, and what its judgement leaves.

either : (b c : Bool) → (b || c) ≡ true → (b ≡ true) ⊎ (c ≡ true)
either true c some = inl refl
either false c some = inr some

pub CanJudge-test : (harts : ℕ) (notes : List Note) (stamp : ℕ) → can_judge harts notes stamp ≡ true → CanJudge harts notes stamp
CanJudge-test zero notes stamp can hart below = absurd (omega arith)
CanJudge-test (suc n) notes stamp can hart below =
    let parts = and_parts (has_ended n notes || nat_lt stamp (mark_of n notes)) (can_judge n notes stamp) can in
    elim (cases_lt hart n) [
      | inl lower ↦ CanJudge-test n notes stamp parts.1 hart lower
      | inr last ↦
          let same : hart ≡ n = omega arith in
          subst (λ (h : ℕ). (has_ended h notes ≡ true) ⊎ (stamp < mark_of h notes)) (sym same)
          (elim (either (has_ended n notes) (nat_lt stamp (mark_of n notes)) parts.0) [
            | inl ended ↦ inl ended
            | inr above ↦ inr (ltb-true stamp (mark_of n notes) above)
          ])
    ]

-- a cycle below the lesser of two is below each
lesser-below : (stamp mark : ℕ) (o : Option ℕ) → is_below (Some (least_with mark o)) stamp ≡ true → (stamp < mark) × (is_below o stamp ≡ true)
lesser-below stamp mark None below = (ltb-true stamp mark below, refl)
lesser-below stamp mark (Some low) below = let under = ltb-true stamp (min mark low) below in (omega arith, lt-ltb stamp low (omega arith))

-- the marks of the harts below the last one, and its own
below-last : (n stamp : ℕ) (notes : List Note) → is_below (least_mark (suc n) notes) stamp ≡ true
    → ((has_ended n notes ≡ true) ⊎ (stamp < mark_of n notes)) × (is_below (least_mark n notes) stamp ≡ true)
below-last n stamp notes below = elim (cases_Bool (has_ended n notes)) [
  | inl ended ↦ (inl ended, ap (λ o. is_below o stamp) (sym (cond-true (has_ended n notes) (least_mark n notes) _ ended)) ∙ below)
  | inr goes_on ↦
      let parts = lesser-below stamp (mark_of n notes) (least_mark n notes)
      (ap (λ o. is_below o stamp) (sym (cond-false (has_ended n notes) (least_mark n notes) _ goes_on)) ∙ below) in
      (inr parts.0, parts.1)
]

pub BelowMark-judged : BelowMarkMayBeJudged
BelowMark-judged zero stamp notes below hart within = absurd (omega arith)
BelowMark-judged (suc n) stamp notes below hart within =
    let parts = below-last n stamp notes below in
    elim (cases_lt hart n) [
      | inl lower ↦ BelowMark-judged n stamp notes parts.1 hart lower
      | inr last ↦
          let same : hart ≡ n = omega arith in
          subst (λ (h : ℕ). (has_ended h notes ≡ true) ⊎ (stamp < mark_of h notes)) (sym same) parts.0
    ]

-- the least mark is above a record that may be judged
least_above : (harts : ℕ) (notes : List Note) (stamp least : ℕ) → CanJudge harts notes stamp → least_mark harts notes ≡ Some least → stamp < least
least_above zero notes stamp least can some = absurd (let never : ⊥ = cc in never)
least_above (suc n) notes stamp least can some =
    let lower : CanJudge n notes stamp = λ h below. can h (omega arith) in
    elim (cases_Bool (has_ended n notes)) [
      | inl ended ↦
          least_above n notes stamp least lower
          (sym (cond-true (has_ended n notes) (least_mark n notes) (Some (least_with (mark_of n notes) (least_mark n notes))) ended) ∙ some)
      | inr open_hart ↦
          let is : Some (least_with (mark_of n notes) (least_mark n notes)) ≡ Some least =
          sym (cond-false (has_ended n notes) (least_mark n notes) (Some (least_with (mark_of n notes) (least_mark n notes))) open_hart) ∙ some in
          let value : least_with (mark_of n notes) (least_mark n notes) ≡ least = cc in
          let mark : stamp < mark_of n notes = reached (can n (omega arith)) open_hart in
          subst (λ (m : ℕ). stamp < m) value (lesser (least_mark n notes) mark (λ low found. least_above n notes stamp low lower found))
    ]
  where
    reached : (has_ended n notes ≡ true) ⊎ (stamp < mark_of n notes) → has_ended n notes ≡ false → stamp < mark_of n notes
    reached (inl ended) open_hart = absurd (both_ways (has_ended n notes) open_hart ended)
    reached (inr above) open_hart = above

    lesser : (o : Option ℕ) → stamp < mark_of n notes → ((low : ℕ) → o ≡ Some low → stamp < low) → stamp < least_with (mark_of n notes) o
    lesser None mark rest = mark
    lesser (Some low) mark rest = let under = rest low refl in omega arith

-- what may be used holds all that counts for a record that may be judged
pub usable-until : (harts : ℕ) (notes : List Note) (stamp : ℕ) → CanJudge harts notes stamp
    → writes_until stamp (usable harts notes) ≡ writes_until stamp (by_key (announced notes))
usable-until harts notes stamp can = by_mark (least_mark harts notes) refl
  where
    by_mark : (o : Option ℕ) → least_mark harts notes ≡ o → writes_until stamp (usable_below o (by_key (announced notes))) ≡ writes_until stamp (by_key (announced notes))
    by_mark None none = refl
    by_mark (Some least) some =
        let above = least_above harts notes stamp least can some in
        filter-narrow (λ (w : Write). nat_le w.key.stamp stamp) (λ (w : Write). nat_lt w.key.stamp least) (by_key (announced notes))
        (λ w fits. lt-ltb w.key.stamp least (omega (arith, leb-true w.key.stamp stamp fits)))

-- more records leave the outcomes as they are
pub AreJudged-more : {J : Type 0} (m : Meaning J) (writes : List Write) (first : J) (rs more : List Record) (os : List Bool) (last : J)
    → AreAnswered m writes first rs os last → AreAnswered m writes first (rs ++ more) os last
AreJudged-more m writes first rs more [] last are = are
AreJudged-more m writes first [] more (o ∷ os) last are = absurd are
AreJudged-more m writes first (r ∷ rs) more (o ∷ os) last are = (are.0, are.1, AreJudged-more m writes (m.after first writes r) rs more os last are.2)

has_failed-parts : (o : Bool) (os : List Bool) → has_failed (o ∷ os) ≡ false → (o ≡ true) × (has_failed os ≡ false)
has_failed-parts true os none = (refl, none)
has_failed-parts false os none = absurd (let never : ⊥ = cc in never)

-- the next record is judged too
pub AreJudged-next : {J : Type 0} (m : Meaning J) (writes : List Write) (first : J) (rs : List Record) (os : List Bool) (last : J) (r : Record)
    → has_failed os ≡ false → slice_get rs (length os) ≡ Some r → AreAnswered m writes first rs os last
    → AreAnswered m writes first rs (os ++ m.allows last writes r ∷ []) (m.after last writes r)
AreJudged-next m writes first [] [] last r good found are = absurd (let never : ⊥ = cc in never)
AreJudged-next m writes first (q ∷ qs) [] last r good found are =
    let same : q ≡ r = cc in
    subst (λ (s : _). AreAnswered m writes first (q ∷ qs) (m.allows s writes r ∷ []) (m.after s writes r)) (sym are)
    (subst (λ (t : Record). AreAnswered m writes first (q ∷ qs) (m.allows first writes t ∷ []) (m.after first writes t)) same (refl, (λ none. refl), refl))
AreJudged-next m writes first [] (o ∷ os) last r good found are = absurd are
AreJudged-next m writes first (q ∷ qs) (o ∷ os) last r good found are =
    let parts = has_failed-parts o os good in (
      are.0,
      (λ none. absurd (let bad : true ≡ false = sym parts.0 ∙ none in let never : ⊥ = cc in never)),
      AreJudged-next m writes (m.after first writes q) qs os last r parts.1 found are.2,
    )

-- where the last outcome is a failure, that is the failure over all records
pub failure_from-last : {J : Type 0} (m : Meaning J) (writes : List Write) (seq : ℕ) (first : J) (rs : List Record) (os : List Bool) (last : J) (r : Record)
    → AreAnswered m writes first rs os last → has_failed os ≡ true → slice_get rs (length os - 1) ≡ Some r
    → failure_from m writes seq first rs ≡ Some (key_of (seq + (length os - 1)) r)
failure_from-last m writes seq first rs [] last r are failed found = absurd (let never : ⊥ = cc in never)
failure_from-last m writes seq first [] (o ∷ os) last r are failed found = absurd are
failure_from-last m writes seq first (q ∷ qs) (false ∷ os) last r are failed found =
    let none : os ≡ [] = are.1 refl in
    let alone : length (false ∷ os) - 1 ≡ 0 = ap (λ xs. length (false ∷ xs) - 1) none in
    let same : Some q ≡ Some r = ap (slice_get (q ∷ qs)) (sym alone) ∙ found in
    let number : seq ≡ seq + (length (false ∷ os) - 1) = omega arith in
    cond-false (m.allows first writes q) _ (Some (key_of seq q)) (sym are.0)
    ∙ ap (λ n. Some (key_of n q)) number ∙ ap (λ (t : Record). Some (key_of (seq + (length (false ∷ os) - 1)) t)) (let one : q ≡ r = cc in one)
failure_from-last m writes seq first (q ∷ qs) (true ∷ []) last r are failed found = absurd (let never : ⊥ = cc in never)
failure_from-last m writes seq first (q ∷ qs) (true ∷ p ∷ ps) last r are failed found =
    let place : length (true ∷ p ∷ ps) - 1 ≡ suc (length (p ∷ ps) - 1) = omega arith in
    let number : seq + 1 + (length (p ∷ ps) - 1) ≡ seq + (length (true ∷ p ∷ ps) - 1) = omega arith in
    cond-true (m.allows first writes q) _ (Some (key_of seq q)) (sym are.0)
    ∙ failure_from-last m writes (seq + 1) (m.after first writes q) qs (p ∷ ps) last r are.2 failed (sym (ap (slice_get (q ∷ qs)) place) ∙ found)
    ∙ ap (λ n. Some (key_of n r)) number
