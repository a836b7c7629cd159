use Rattle.std.proofs.Common.{ℕ, ◌≡◌, ◌+◌, ◌<◌, ◌≤◌, ◌==◌, ◌⊎◌, Bool, true, min, zero, suc, Option, Some, None, List, [], ◌∷◌, ◌++◌, nat_lt, nat_le, refl, sym, ap, ◌∙◌, subst, inl, inr, arith, eqb-true}
use Rattle.std.proofs.lemmas.Bool.{cases_Bool, cases_lt, cond-true, cond-false}
use Rattle.std.proofs.lemmas.Bool.Decides.{nat_tests}
use Rattle.std.proofs.lemmas.List.{append_assoc}
use Rattle.std.proofs.lemmas.List.Elements.{filter-append, filter_agree}
use mathlib.Core.List.{IsPrefix}
use Rattle.dt_lists.proofs.Lists.{filter-dropped, filter-filter}
use Rattle.dt_record.specs.declared.records.Record.{Record}
use Rattle.dt_record.specs.declared.writes.Write.{Write}
use Rattle.dt_record.specs.declared.writes.Note.{Note}
use Rattle.dt_record.specs.Keys.{records_of}
use Rattle.dt_record.specs.ProbeFile.{AreRecords, no_stamps, stamped}
use Rattle.dt_record.specs.Writes.{no_records, writes_after, by_key, writes_of}
use Rattle.dt_versions.specs.History.{writes_until}
use Rattle.dt_core.specs.Notes.{announced, hart_writes, writes_below}
use Rattle.dt_record.specs.Marks.{mark_of, has_ended, least_with, least_mark, HasPassed}
use Rattle.dt_core.specs.Sound.{Lists, IsSound, writes_by}
use Rattle.dt_core.specs.Laws.{HoldsBelow, WritesBelowMarkAreAll, WritesUntilJudgedAreAll, WritesUntilPassedAreAll}
use Rattle.dt_core.proofs.Insertion.{filter-by_key}
use Rattle.dt_core.proofs.Sorting.{by_key-harts}
use Rattle.dt_core.proofs.Announced.{hart_writes-after, IsHistoryFront, IsHistoryFront-below, IsHistoryFront-passed, IsHistoryFront-ended, IsHistoryFront-empty}

-- The watermark law, from what a front of the history holds of each hart.

-- the file has no record of a hart that it does not have
pub records_of-none : (harts hart : ℕ) (last : ℕ → ℕ) (records : List Record) → AreRecords harts last records → harts ≤ hart → records_of hart records ≡ []
records_of-none harts hart last [] each past = refl
records_of-none harts hart last (r ∷ rs) each past = elim (cases_Bool (r.hart == hart)) [
  | inl own ↦ let same = eqb-true r.hart hart own in let few = each.0.hart in absurd (omega arith)
  | inr other ↦ filter-dropped (λ (s : Record). s.hart == hart) r rs other ∙ records_of-none harts hart (stamped last r) rs each.1 past
]

-- what a hart has taken is a front of its records in the file
taken_first : (hart : ℕ) (file : List Record) (l : Lists) → IsSound file l → IsPrefix (l.taken hart) (records_of hart file)
taken_first hart file l sound =
    let queue = l.queue hart in
    let rest = sound.fed.front.0 in (
      queue ++ records_of hart rest,
      sym (append_assoc (l.taken hart) queue (records_of hart rest)) ∙ ap (λ rs. rs ++ records_of hart rest) (sound.kept hart)
          ∙ sym (filter-append (λ (s : Record). s.hart == hart) l.fed rest) ∙ ap (records_of hart) sound.fed.front.1,
    )

front_of : (hart : ℕ) (file : List Record) (l : Lists) (front : List Note) → IsSound file l → IsPrefix front l.history
    → IsHistoryFront hart (records_of hart file) (l.taken hart) l.history front
front_of hart file l front sound begins = record { told = sound.harts hart; first = taken_first hart file l sound; begins = begins }

-- each hart of the file has ended or reached the stamp
abbrev HaveReached : ℕ → List Note → ℕ → Type 0
HaveReached harts notes stamp = (hart : ℕ) → hart < harts → (has_ended hart notes ≡ true) ⊎ (stamp ≤ mark_of hart notes)

-- the notes hold the writes of each of the harts below the stamp
abbrev HoldEach : ℕ → List Note → List Record → ℕ → Type 0
HoldEach harts notes file stamp = (hart : ℕ) → hart < harts
    → writes_below stamp (hart_writes hart (announced notes)) ≡ writes_below stamp (writes_by (records_of hart file))

reached_each : (harts stamp : ℕ) (file : List Record) (l : Lists) (front : List Note)
    → IsSound file l → IsPrefix front l.history → HaveReached harts front stamp → HoldEach harts front file stamp
reached_each harts stamp file l front sound begins reached hart below =
    IsHistoryFront-below hart stamp (records_of hart file) (l.taken hart) l.history front (front_of hart file l front sound begins) (reached hart below)

passed_each : (harts stamp : ℕ) (file : List Record) (l : Lists) (front : List Note)
    → IsSound file l → IsPrefix front l.history → HasPassed harts front stamp → HoldEach harts front file (stamp + 1)
passed_each harts stamp file l front sound begins passed hart below =
    IsHistoryFront-passed hart stamp (records_of hart file) (l.taken hart) l.history front (front_of hart file l front sound begins) (passed hart below)

hart_below : (harts hart stamp : ℕ) (file : List Record) (l : Lists) (front : List Note)
    → AreRecords harts no_stamps file → IsSound file l → IsPrefix front l.history → HoldEach harts front file stamp
    → hart_writes hart (writes_below stamp (announced front)) ≡ hart_writes hart (writes_below stamp (writes_after no_records file))
hart_below harts hart stamp file l front each sound begins held_each =
    let under : Write → Bool = λ w. nat_lt w.key.stamp stamp in
    let own : Write → Bool = λ w. w.key.hart == hart in
    let is = front_of hart file l front sound begins in
    let whole = hart_writes-after hart no_records no_records file refl in
    let held : writes_below stamp (hart_writes hart (announced front)) ≡ writes_below stamp (writes_by (records_of hart file)) =
    elim (cases_lt hart harts) [
      | inl one ↦ held_each hart one
      | inr past ↦
          let none = records_of-none harts hart no_stamps file each past in
          ap (writes_below stamp) (IsHistoryFront-empty hart (records_of hart file) (l.taken hart) l.history front is none)
          ∙ ap (λ rs. writes_below stamp (writes_by rs)) (sym none)
    ] in
    filter-filter own under (announced front) ∙ held ∙ ap (writes_below stamp) (sym whole) ∙ filter-filter under own (writes_after no_records file)

-- so the front holds exactly the writes of the file below the stamp
all_below : (harts stamp : ℕ) (file : List Record) (l : Lists) (front : List Note)
    → AreRecords harts no_stamps file → IsSound file l → IsPrefix front l.history → HoldEach harts front file stamp
    → writes_below stamp (by_key (announced front)) ≡ writes_below stamp (writes_of file)
all_below harts stamp file l front each sound begins held_each =
    let under : Write → Bool = λ w. nat_lt w.key.stamp stamp in
    filter-by_key under (announced front)
    ∙ by_key-harts (writes_below stamp (announced front)) (writes_below stamp (writes_after no_records file))
    (λ hart. hart_below harts hart stamp file l front each sound begins held_each)
    ∙ sym (filter-by_key under (writes_after no_records file))

all_ended : (harts : ℕ) (file : List Record) (l : Lists) (front : List Note)
    → AreRecords harts no_stamps file → IsSound file l → IsPrefix front l.history → ((hart : ℕ) → hart < harts → has_ended hart front ≡ true)
    → by_key (announced front) ≡ writes_of file
all_ended harts file l front each sound begins ended =
    by_key-harts (announced front) (writes_after no_records file) (λ hart.
    let is = front_of hart file l front sound begins in
    let whole = hart_writes-after hart no_records no_records file refl in
    elim (cases_lt hart harts) [
      | inl one ↦ IsHistoryFront-ended hart (records_of hart file) (l.taken hart) l.history front is (ended hart one) ∙ sym whole
      | inr past ↦
          let none = records_of-none harts hart no_stamps file each past in
          IsHistoryFront-empty hart (records_of hart file) (l.taken hart) l.history front is none ∙ ap writes_by (sym none) ∙ sym whole
    ])

-- the least mark is one that all harts have reached

least_none : (harts : ℕ) (notes : List Note) → least_mark harts notes ≡ None → (hart : ℕ) → hart < harts → has_ended hart notes ≡ true
least_none zero notes none hart below = absurd (omega arith)
least_none (suc n) notes none hart below = elim (cases_Bool (has_ended n notes)) [
  | inl ended ↦
      let rest : least_mark n notes ≡ None =
      sym (cond-true (has_ended n notes) (least_mark n notes) (Some (least_with (mark_of n notes) (least_mark n notes))) ended) ∙ none in
      elim (cases_lt hart n) [
        | inl lower ↦ least_none n notes rest hart lower
        | inr last ↦ let same : hart ≡ n = omega arith in ap (λ h. has_ended h notes) same ∙ ended
      ]
  | inr open_hart ↦
      let bad : Some (least_with (mark_of n notes) (least_mark n notes)) ≡ None =
      sym (cond-false (has_ended n notes) (least_mark n notes) (Some (least_with (mark_of n notes) (least_mark n notes))) open_hart) ∙ none in
      absurd (let never : ⊥ = cc in never)
]

-- the lesser of a hart's mark and the least of the harts below it
least-with : (n : ℕ) (notes : List Note) (o : Option ℕ) → ((least : ℕ) → o ≡ Some least → HaveReached n notes least)
    → (o ≡ None → (hart : ℕ) → hart < n → has_ended hart notes ≡ true) → HaveReached (suc n) notes (least_with (mark_of n notes) o)
least-with n notes None some none hart below = elim (cases_lt hart n) [
  | inl lower ↦ inl (none refl hart lower)
  | inr last ↦ let same : hart ≡ n = omega arith in let here : mark_of hart notes ≡ mark_of n notes = ap (λ h. mark_of h notes) same in inr (omega arith)
]
least-with n notes (Some low) some none hart below = elim (cases_lt hart n) [
  | inl lower ↦ lesser (some low refl hart lower)
  | inr last ↦ let same : hart ≡ n = omega arith in let here : mark_of hart notes ≡ mark_of n notes = ap (λ h. mark_of h notes) same in inr (omega arith)
]
  where
    lesser : (has_ended hart notes ≡ true) ⊎ (low ≤ mark_of hart notes) → (has_ended hart notes ≡ true) ⊎ (min (mark_of n notes) low ≤ mark_of hart notes)
    lesser (inl ended) = inl ended
    lesser (inr reached) = inr (omega arith)

least_some : (harts : ℕ) (notes : List Note) (least : ℕ) → least_mark harts notes ≡ Some least → HaveReached harts notes least
least_some zero notes least some hart below = absurd (omega arith)
least_some (suc n) notes least some hart below = elim (cases_Bool (has_ended n notes)) [
  | inl ended ↦
      let rest : least_mark n notes ≡ Some least =
      sym (cond-true (has_ended n notes) (least_mark n notes) (Some (least_with (mark_of n notes) (least_mark n notes))) ended) ∙ some in
      elim (cases_lt hart n) [
        | inl lower ↦ least_some n notes least rest hart lower
        | inr last ↦ let same : hart ≡ n = omega arith in inl (ap (λ h. has_ended h notes) same ∙ ended)
      ]
  | inr open_hart ↦
      let is : Some (least_with (mark_of n notes) (least_mark n notes)) ≡ Some least =
      sym (cond-false (has_ended n notes) (least_mark n notes) (Some (least_with (mark_of n notes) (least_mark n notes))) open_hart) ∙ some in
      let value : least_with (mark_of n notes) (least_mark n notes) ≡ least = cc in
      subst (λ (m : ℕ). (has_ended hart notes ≡ true) ⊎ (m ≤ mark_of hart notes)) value
      (least-with n notes (least_mark n notes) (λ low is_low. least_some n notes low is_low) (least_none n notes) hart below)
]

pub WritesBelowMark-all : WritesBelowMarkAreAll
WritesBelowMark-all harts file l front each sound begins = by_mark (least_mark harts front) refl
  where
    by_mark : (o : Option ℕ) → least_mark harts front ≡ o → HoldsBelow o front file
    by_mark None none = all_ended harts file l front each sound begins (least_none harts front none)
    by_mark (Some least) some = all_below harts least file l front each sound begins (reached_each harts least file l front sound begins (least_some harts front least some))

until_below : (stamp : ℕ) (ws : List Write) → writes_until stamp ws ≡ writes_below (stamp + 1) ws
until_below stamp ws = filter_agree (λ (w : Write). nat_le w.key.stamp stamp) (λ (w : Write). nat_lt w.key.stamp (stamp + 1)) (λ w. grind (arith, nat_tests)) ws

-- up to a cycle, where the writes below the next one are held
all_until : (harts stamp : ℕ) (file : List Record) (l : Lists) (front : List Note)
    → AreRecords harts no_stamps file → IsSound file l → IsPrefix front l.history → HoldEach harts front file (stamp + 1)
    → writes_until stamp (by_key (announced front)) ≡ writes_until stamp (writes_of file)
all_until harts stamp file l front each sound begins held_each =
    until_below stamp (by_key (announced front))
    ∙ all_below harts (stamp + 1) file l front each sound begins held_each
    ∙ sym (until_below stamp (writes_of file))

pub WritesUntilPassed-all : WritesUntilPassedAreAll
WritesUntilPassed-all harts file l front stamp each sound begins passed =
    all_until harts stamp file l front each sound begins (passed_each harts stamp file l front sound begins passed)

pub WritesUntilJudged-all : WritesUntilJudgedAreAll
WritesUntilJudged-all harts file l front stamp each sound begins can =
    all_until harts stamp file l front each sound begins
    (reached_each harts (stamp + 1) file l front sound begins (λ hart below. strictly hart (can hart below)))
  where
    strictly : (hart : ℕ) → (has_ended hart front ≡ true) ⊎ (stamp < mark_of hart front) → (has_ended hart front ≡ true) ⊎ (stamp + 1 ≤ mark_of hart front)
    strictly hart (inl ended) = inl ended
    strictly hart (inr above) = inr (omega arith)
