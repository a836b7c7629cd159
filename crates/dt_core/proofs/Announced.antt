use Rattle.std.proofs.Common.{ℕ, ◌≡◌, ◌+◌, ◌-◌, ◌≤◌, ◌==◌, ◌||◌, ◌⊎◌, Bool, true, false, cond, suc, Option, Some, None, List, [], ◌∷◌, ◌++◌, length, nat_lt, refl, sym, ap, ◌∙◌, subst, inl, inr, arith, eq-eqb, eqb-true}
use Rattle.std.specs.List.{cons_option}
use Rattle.std.proofs.lemmas.Bool.Decides.{nat_tests}
use Rattle.std.specs.Prelude.{option_to_list, slice_index, Contains}
use Rattle.std.proofs.lemmas.Bool.{cases_Bool, cond-true, cond-false, both_ways, ltb-true, lt-ltb}
use Rattle.std.proofs.lemmas.List.{append_assoc, append-nil, length-append}
use Rattle.std.proofs.lemmas.List.Elements.{filter-append, filter_map-append, Contains-append_cases, Contains-push_cases}
use mathlib.Core.List.{IsPrefix}
use Rattle.dt_lists.proofs.Lists.{filter-kept, filter-dropped}
use Rattle.dt_record.specs.declared.keys.Key.{Key}
use Rattle.dt_record.specs.declared.records.Record.{Record}
use Rattle.dt_record.specs.declared.records.Body.{Body}
use Rattle.dt_record.specs.declared.records.Body.TheVariants.{Commit, Trap, Regs, Csrs, Load, Store, Atomic, Drain, Refill, Beat}
use Rattle.dt_record.specs.declared.writes.Write.{Write}
use Rattle.dt_record.specs.declared.writes.Note.{Note}
use Rattle.dt_record.specs.declared.writes.Note.TheVariants.{Wrote, Mark, End, Cut, Failure}
use Rattle.dt_record.specs.Keys.{records_of}
use Rattle.dt_record.specs.Writes.{body_write, write_of_record, counted, writes_after}
use Rattle.dt_core.specs.Notes.{write_in, announced, hart_writes, writes_below}
use Rattle.dt_record.specs.Marks.{stamp_in, ends, marks_of, mark_of, has_ended, HasMarkAbove}
use Rattle.dt_core.specs.Sound.{IsAnnounced, writes_by}
use Rattle.dt_core.proofs.Selection.{filter-narrow, filter-empty}

-- What a front of a history holds of one hart.

-- the writes of one hart among those of all are those of its own records

cond-alike : {X : Type 0} (b : Bool) (x : X) → x ≡ cond b x x
cond-alike true x = refl
cond-alike false x = refl

body-hart : (hart : ℕ) (key : Key) (body : Body)
    → hart_writes hart (option_to_list (body_write key body)) ≡ cond (key.hart == hart) (option_to_list (body_write key body)) []
body-hart hart key (Drain line mask count bytes) = refl
body-hart hart key (Atomic retire paddr width true new) = refl
body-hart hart key (Atomic retire paddr width false new) = cond-alike (key.hart == hart) []
body-hart hart key (Commit retire) = cond-alike (key.hart == hart) []
body-hart hart key (Trap pc bits cause tval) = cond-alike (key.hart == hart) []
body-hart hart key (Regs pc x) = cond-alike (key.hart == hart) []
body-hart hart key (Csrs mode v) = cond-alike (key.hart == hart) []
body-hart hart key (Load retire at paddr) = cond-alike (key.hart == hart) []
body-hart hart key (Store pc bits paddr value) = cond-alike (key.hart == hart) []
body-hart hart key (Refill line bytes) = cond-alike (key.hart == hart) []
body-hart hart key Beat = cond-alike (key.hart == hart) []

record-hart : (hart seq : ℕ) (r : Record)
    → hart_writes hart (option_to_list (write_of_record seq r)) ≡ cond (r.hart == hart) (option_to_list (write_of_record seq r)) []
record-hart hart seq r = body-hart hart (record { stamp = r.stamp; hart = r.hart; seq = seq }) r.body

counted-own : (seqs : ℕ → ℕ) (r : Record) (hart : ℕ) → (r.hart == hart) ≡ true → counted seqs r hart ≡ seqs hart + 1
counted-own seqs r hart own =
    cond-true (hart == r.hart) (seqs hart + 1) (seqs hart) (eq-eqb hart r.hart (sym (eqb-true r.hart hart own)))

counted-other : (seqs : ℕ → ℕ) (r : Record) (hart : ℕ) → (r.hart == hart) ≡ false → counted seqs r hart ≡ seqs hart
counted-other seqs r hart other = elim (cases_Bool (hart == r.hart)) [
  | inl own ↦ absurd (both_ways (r.hart == hart) other (eq-eqb r.hart hart (sym (eqb-true hart r.hart own))))
  | inr apart ↦ cond-false (hart == r.hart) (seqs hart + 1) (seqs hart) apart
]

pub hart_writes-after : (hart : ℕ) (seqs own : ℕ → ℕ) (records : List Record) → seqs hart ≡ own hart
    → hart_writes hart (writes_after seqs records) ≡ writes_after own (records_of hart records)
hart_writes-after hart seqs own [] same = refl
hart_writes-after hart seqs own (r ∷ rs) same =
    let split = filter-append (λ (w : Write). w.key.hart == hart) (option_to_list (write_of_record (seqs r.hart) r)) (writes_after (counted seqs r) rs) in
    elim (cases_Bool (r.hart == hart)) [
      | inl mine ↦
          let number : seqs r.hart ≡ own r.hart =
          ap seqs (eqb-true r.hart hart mine) ∙ same ∙ ap own (sym (eqb-true r.hart hart mine)) in
          let head = record-hart hart (seqs r.hart) r ∙ cond-true (r.hart == hart) (option_to_list (write_of_record (seqs r.hart) r)) [] mine
          ∙ ap (λ n. option_to_list (write_of_record n r)) number in
          let rest = hart_writes-after hart (counted seqs r) (counted own r) rs
          (counted-own seqs r hart mine ∙ ap (λ n. n + 1) same ∙ sym (counted-own own r hart mine)) in
          split ∙ ap (λ ws. ws ++ hart_writes hart (writes_after (counted seqs r) rs)) head
          ∙ ap (λ ws. option_to_list (write_of_record (own r.hart) r) ++ ws) rest
          ∙ sym (ap (writes_after own) (filter-kept (λ (s : Record). s.hart == hart) r rs mine))
      | inr other ↦
          let head = record-hart hart (seqs r.hart) r ∙ cond-false (r.hart == hart) (option_to_list (write_of_record (seqs r.hart) r)) [] other in
          let rest = hart_writes-after hart (counted seqs r) own rs (counted-other seqs r hart other ∙ same) in
          split ∙ ap (λ ws. ws ++ hart_writes hart (writes_after (counted seqs r) rs)) head ∙ rest
          ∙ sym (ap (writes_after own) (filter-dropped (λ (s : Record). s.hart == hart) r rs other))
    ]

-- records that come first write first
pub writes_after-front : (seqs : ℕ → ℕ) (xs ys : List Record) → IsPrefix (writes_after seqs xs) (writes_after seqs (xs ++ ys))
writes_after-front seqs [] ys = (writes_after seqs ys, refl)
writes_after-front seqs (x ∷ xs) ys =
    let rest = writes_after-front (counted seqs x) xs ys in
    let first = option_to_list (write_of_record (seqs x.hart) x) in
    (rest.0, append_assoc first (writes_after (counted seqs x) xs) rest.0 ∙ ap (λ ws. first ++ ws) rest.1)

-- where an End or the last Mark stands

pub record StandsAt (note : Note) (notes : List Note) : Type 0 where
  pub before : List Note
  pub after : List Note
  pub split : notes ≡ before ++ note ∷ after

StandsAt-behind : (n note : Note) (ns : List Note) → StandsAt note ns → StandsAt note (n ∷ ns)
StandsAt-behind n note ns place = record { before = n ∷ place.before; after = place.after; split = ap (λ xs. n ∷ xs) place.split }

ends-note : (hart : ℕ) (n : Note) → ends hart n ≡ true → n ≡ End hart
ends-note hart (End h) is = ap End (eqb-true h hart is)
ends-note hart (Wrote w) is = absurd (let never : ⊥ = cc in never)
ends-note hart (Mark h stamp) is = absurd (let never : ⊥ = cc in never)
ends-note hart (Cut h cut) is = absurd (let never : ⊥ = cc in never)
ends-note hart (Failure key) is = absurd (let never : ⊥ = cc in never)

second : (b c : Bool) → b ≡ false → (b || c) ≡ true → c ≡ true
second true c never some = absurd (let bad : ⊥ = cc in bad)
second false c never some = some

pub StandsAt-end : (hart : ℕ) (notes : List Note) → has_ended hart notes ≡ true → StandsAt (End hart) notes
StandsAt-end hart [] ended = absurd (let never : ⊥ = cc in never)
StandsAt-end hart (n ∷ ns) ended = elim (cases_Bool (ends hart n)) [
  | inl here ↦ record { before = []; after = ns; split = ap (λ m. m ∷ ns) (ends-note hart n here) }
  | inr past ↦
      let rest : has_ended hart ns ≡ true = second (ends hart n) (has_ended hart ns) past ended in
      StandsAt-behind n (End hart) ns (StandsAt-end hart ns rest)
]

stamp_in-note : (hart stamp : ℕ) (n : Note) → stamp_in hart n ≡ Some stamp → n ≡ Mark hart stamp
stamp_in-note hart stamp (Mark h s) is = elim (cases_Bool (h == hart)) [
  | inl own ↦
      let same : Some s ≡ Some stamp = sym (cond-true (h == hart) (Some s) None own) ∙ is in
      let stamps : s ≡ stamp = cc in
      ap (λ k. Mark k s) (eqb-true h hart own) ∙ ap (Mark hart) stamps
  | inr other ↦
      let none : None ≡ Some stamp = sym (cond-false (h == hart) (Some s) None other) ∙ is in
      absurd (let never : ⊥ = cc in never)
]
stamp_in-note hart stamp (End h) is = absurd (let never : ⊥ = cc in never)
stamp_in-note hart stamp (Wrote w) is = absurd (let never : ⊥ = cc in never)
stamp_in-note hart stamp (Cut h cut) is = absurd (let never : ⊥ = cc in never)
stamp_in-note hart stamp (Failure key) is = absurd (let never : ⊥ = cc in never)

last-behind : (s m : ℕ) (ms : List ℕ) → slice_index (s ∷ m ∷ ms) (length (s ∷ m ∷ ms) - 1) ≡ slice_index (m ∷ ms) (length (m ∷ ms) - 1)
last-behind s m ms =
    let long : length (s ∷ m ∷ ms) - 1 ≡ suc (length ms) = omega arith in
    let short : length ms ≡ length (m ∷ ms) - 1 = omega arith in
    ap (slice_index (s ∷ m ∷ ms)) long ∙ ap (slice_index (m ∷ ms)) short

-- the hart's mark is that of a Mark, or there is none
abbrev pub HasMark : ℕ → List Note → Type 0
HasMark hart notes = (marks_of hart notes ≡ []) ⊎ StandsAt (Mark hart (mark_of hart notes)) notes

-- the mark after one more note at the front
HasMark-of : (hart : ℕ) (n : Note) (ns : List Note) (marks : List ℕ) → marks_of hart (n ∷ ns) ≡ marks
    → StandsAt (Mark hart (slice_index marks (length marks - 1))) (n ∷ ns) → HasMark hart (n ∷ ns)
HasMark-of hart n ns marks is place =
    inr (subst (λ (ms : List ℕ). StandsAt (Mark hart (slice_index ms (length ms - 1))) (n ∷ ns)) (sym is) place)

HasMark-behind : (hart : ℕ) (n : Note) (ns : List Note) (o : Option ℕ) (marks : List ℕ) → stamp_in hart n ≡ o → marks_of hart ns ≡ marks
    → HasMark hart ns → HasMark hart (n ∷ ns)
HasMark-behind hart n ns None [] note none rest = inl (ap (λ o. cons_option o (marks_of hart ns)) note ∙ none)
HasMark-behind hart n ns None (m ∷ ms) note some (inl none) = absurd (let bad : [] ≡ m ∷ ms = sym none ∙ some in let never : ⊥ = cc in never)
HasMark-behind hart n ns None (m ∷ ms) note some (inr place) =
    HasMark-of hart n ns (marks_of hart ns) (ap (λ o. cons_option o (marks_of hart ns)) note) (StandsAt-behind n (Mark hart (mark_of hart ns)) ns place)
HasMark-behind hart n ns (Some s) [] note none rest =
    HasMark-of hart n ns (s ∷ []) (ap (λ o. cons_option o (marks_of hart ns)) note ∙ ap (λ ms. s ∷ ms) none)
    (record { before = []; after = ns; split = ap (λ m. m ∷ ns) (stamp_in-note hart s n note) })
HasMark-behind hart n ns (Some s) (m ∷ ms) note some (inl none) = absurd (let bad : [] ≡ m ∷ ms = sym none ∙ some in let never : ⊥ = cc in never)
HasMark-behind hart n ns (Some s) (m ∷ ms) note some (inr place) =
    HasMark-of hart n ns (s ∷ m ∷ ms) (ap (λ o. cons_option o (marks_of hart ns)) note ∙ ap (λ xs. s ∷ xs) some)
    (subst (λ (stamp : ℕ). StandsAt (Mark hart stamp) (n ∷ ns)) (ap (λ xs. slice_index xs (length xs - 1)) some ∙ sym (last-behind s m ms))
    (StandsAt-behind n (Mark hart (mark_of hart ns)) ns place))

pub HasMark-all : (hart : ℕ) (notes : List Note) → HasMark hart notes
HasMark-all hart [] = inl refl
HasMark-all hart (n ∷ ns) = HasMark-behind hart n ns (stamp_in hart n) (marks_of hart ns) refl refl (HasMark-all hart ns)

-- each mark of the hart is that of a Mark
mark-behind : (hart stamp : ℕ) (n : Note) (ns : List Note) (o : Option ℕ) → stamp_in hart n ≡ o → Contains (cons_option o (marks_of hart ns)) stamp
    → (Contains (marks_of hart ns) stamp → StandsAt (Mark hart stamp) ns) → StandsAt (Mark hart stamp) (n ∷ ns)
mark-behind hart stamp n ns None note held rest = StandsAt-behind n (Mark hart stamp) ns (rest held)
mark-behind hart stamp n ns (Some s) note held rest = elim (Contains-append_cases (s ∷ []) (marks_of hart ns) stamp held) [
  | inl first ↦ elim (Contains-push_cases [] s stamp first) [
    | inl none ↦ let never = none.1 in absurd (omega arith)
    | inr same ↦ record { before = []; after = ns; split = ap (λ m. m ∷ ns) (stamp_in-note hart stamp n (note ∙ ap Some same)) }
  ]
  | inr later ↦ StandsAt-behind n (Mark hart stamp) ns (rest later)
]

StandsAt-mark : (hart stamp : ℕ) (notes : List Note) → Contains (marks_of hart notes) stamp → StandsAt (Mark hart stamp) notes
StandsAt-mark hart stamp [] held = let never = held.1 in absurd (omega arith)
StandsAt-mark hart stamp (n ∷ ns) held = mark-behind hart stamp n ns (stamp_in hart n) refl held (StandsAt-mark hart stamp ns)

-- what a front of the history holds of one hart, of which the file's records write so much

-- a front that holds all writes has no more behind it
nothing_more : (ws more rest : List Write) → (ws ++ more) ++ rest ≡ ws → more ≡ []
nothing_more ws more rest all =
    let count : length ((ws ++ more) ++ rest) ≡ length ws = ap length all in
    empty more (omega (arith, length-append (ws ++ more) rest, length-append ws more))
  where
    empty : (xs : List Write) → length xs ≡ 0 → xs ≡ []
    empty [] none = refl
    empty (x ∷ xs) none = absurd (omega arith)

first_empty : (xs ys : List Write) → xs ++ ys ≡ [] → xs ≡ []
first_empty [] ys none = refl
first_empty (x ∷ xs) ys none = absurd (let never : ⊥ = cc in never)

announced-split : (hart : ℕ) (before after : List Note) (note : Note)
    → hart_writes hart (announced (before ++ note ∷ after)) ≡ hart_writes hart (announced before) ++ hart_writes hart (announced (note ∷ after))
announced-split hart before after note =
    ap (hart_writes hart) (filter_map-append write_in before (note ∷ after)) ∙ filter-append (λ (w : Write). w.key.hart == hart) (announced before) (announced (note ∷ after))

pub record IsHistoryFront (hart : ℕ) (records taken : List Record) (history front : List Note) : Type 0 where
  pub told : IsAnnounced hart records taken history
  pub first : IsPrefix taken records
  pub begins : IsPrefix front history

-- the writes that a front holds are the first of the hart's
IsHistoryFront-writes : (hart : ℕ) (records taken : List Record) (history front : List Note) → IsHistoryFront hart records taken history front
    → IsPrefix (hart_writes hart (announced front)) (writes_by records)
IsHistoryFront-writes hart records taken history front is =
    let later = is.begins.0 in
    let most = writes_after-front (λ (h : ℕ). 0) taken is.first.0 in
    let held = hart_writes hart (announced front) in
    let more = hart_writes hart (announced later) in
    let whole : hart_writes hart (announced history) ≡ held ++ more =
    ap (λ h. hart_writes hart (announced h)) (sym is.begins.1) ∙ ap (hart_writes hart) (filter_map-append write_in front later)
    ∙ filter-append (λ (w : Write). w.key.hart == hart) (announced front) (announced later) in
    let told = is.told.wrote in (
      more ++ (told.0 ++ most.0),
      sym (append_assoc held more (told.0 ++ most.0)) ∙ ap (λ ws. ws ++ (told.0 ++ most.0)) (sym whole)
          ∙ sym (append_assoc (hart_writes hart (announced history)) told.0 most.0) ∙ ap (λ ws. ws ++ most.0) told.1
          ∙ most.1 ∙ ap writes_by is.first.1,
    )

pub IsHistoryFront-ended : (hart : ℕ) (records taken : List Record) (history front : List Note) → IsHistoryFront hart records taken history front
    → has_ended hart front ≡ true → hart_writes hart (announced front) ≡ writes_by records
IsHistoryFront-ended hart records taken history front is ended =
    let place = StandsAt-end hart front ended in
    let split : history ≡ place.before ++ End hart ∷ (place.after ++ is.begins.0) =
    sym is.begins.1 ∙ ap (λ xs. xs ++ is.begins.0) place.split ∙ append_assoc place.before (End hart ∷ place.after) is.begins.0 in
    let all = is.told.ends place.before (place.after ++ is.begins.0) split in
    let more = hart_writes hart (announced (End hart ∷ place.after)) in
    let held : hart_writes hart (announced front) ≡ writes_by records ++ more =
    ap (λ h. hart_writes hart (announced h)) place.split ∙ announced-split hart place.before place.after (End hart) ∙ ap (λ ws. ws ++ more) all in
    let most = IsHistoryFront-writes hart records taken history front is in
    let none = nothing_more (writes_by records) more most.0 (ap (λ ws. ws ++ most.0) (sym held) ∙ most.1) in
    held ∙ ap (λ ws. writes_by records ++ ws) none ∙ append-nil (writes_by records)

below_none : (ws : List Write) → writes_below 0 ws ≡ []
below_none ws = filter-empty (λ (w : Write). nat_lt w.key.stamp 0) ws (λ w. grind (arith, nat_tests))

below_less : (low high : ℕ) (ws : List Write) → low ≤ high → writes_below low (writes_below high ws) ≡ writes_below low ws
below_less low high ws under = filter-narrow (λ (w : Write). nat_lt w.key.stamp low) (λ (w : Write). nat_lt w.key.stamp high) ws
    (λ w less. lt-ltb w.key.stamp high (omega (arith, ltb-true w.key.stamp low less)))

IsHistoryFront-marked : (hart stamp : ℕ) (records taken : List Record) (history front : List Note) → IsHistoryFront hart records taken history front
    → StandsAt (Mark hart stamp) front → writes_below stamp (hart_writes hart (announced front)) ≡ writes_below stamp (writes_by records)
IsHistoryFront-marked hart stamp records taken history front is place =
    let note = Mark hart stamp in
    let split : history ≡ place.before ++ note ∷ (place.after ++ is.begins.0) =
    sym is.begins.1 ∙ ap (λ xs. xs ++ is.begins.0) place.split ∙ append_assoc place.before (note ∷ place.after) is.begins.0 in
    let all = is.told.marks place.before (place.after ++ is.begins.0) stamp split in
    let early = hart_writes hart (announced place.before) in
    let more = hart_writes hart (announced (note ∷ place.after)) in
    let held : hart_writes hart (announced front) ≡ early ++ more =
    ap (λ h. hart_writes hart (announced h)) place.split ∙ announced-split hart place.before place.after note in
    let most = IsHistoryFront-writes hart records taken history front is in
    let under : Write → Bool = λ w. nat_lt w.key.stamp stamp in
    let whole : writes_by records ≡ (early ++ more) ++ most.0 = sym most.1 ∙ ap (λ ws. ws ++ most.0) held in
    let parts : writes_below stamp (writes_by records) ≡ (writes_below stamp early ++ writes_below stamp more) ++ writes_below stamp most.0 =
    ap (writes_below stamp) whole ∙ filter-append under (early ++ more) most.0 ∙ ap (λ ws. ws ++ writes_below stamp most.0) (filter-append under early more) in
    let none = nothing_more (writes_below stamp early) (writes_below stamp more) (writes_below stamp most.0) (sym parts ∙ sym all) in
    ap (writes_below stamp) held ∙ filter-append under early more ∙ ap (λ ws. writes_below stamp early ++ ws) none ∙ append-nil (writes_below stamp early) ∙ all

-- below a stamp that the hart has reached, a front holds all of the hart's writes
pub IsHistoryFront-below : (hart stamp : ℕ) (records taken : List Record) (history front : List Note) → IsHistoryFront hart records taken history front
    → (has_ended hart front ≡ true) ⊎ (stamp ≤ mark_of hart front)
    → writes_below stamp (hart_writes hart (announced front)) ≡ writes_below stamp (writes_by records)
IsHistoryFront-below hart stamp records taken history front is (inl ended) = ap (writes_below stamp) (IsHistoryFront-ended hart records taken history front is ended)
IsHistoryFront-below hart stamp records taken history front is (inr reached) = elim (HasMark-all hart front) [
  | inl none ↦
      let zero_mark : mark_of hart front ≡ 0 = ap (λ (ms : List ℕ). slice_index ms (length ms - 1)) none in
      let low : stamp ≡ 0 = omega arith in
      ap (λ s. writes_below s (hart_writes hart (announced front))) low ∙ below_none (hart_writes hart (announced front))
      ∙ sym (ap (λ s. writes_below s (writes_by records)) low ∙ below_none (writes_by records))
  | inr place ↦
      let mark = mark_of hart front in
      sym (below_less stamp mark (hart_writes hart (announced front)) reached)
      ∙ ap (writes_below stamp) (IsHistoryFront-marked hart mark records taken history front is place)
      ∙ below_less stamp mark (writes_by records) reached
]

-- and below the next cycle, where the hart has passed this one
pub IsHistoryFront-passed : (hart stamp : ℕ) (records taken : List Record) (history front : List Note) → IsHistoryFront hart records taken history front
    → (has_ended hart front ≡ true) ⊎ HasMarkAbove hart front stamp
    → writes_below (stamp + 1) (hart_writes hart (announced front)) ≡ writes_below (stamp + 1) (writes_by records)
IsHistoryFront-passed hart stamp records taken history front is (inl ended) = ap (writes_below (stamp + 1)) (IsHistoryFront-ended hart records taken history front is ended)
IsHistoryFront-passed hart stamp records taken history front is (inr (mark, held, above)) =
    sym (below_less (stamp + 1) mark (hart_writes hart (announced front)) (omega arith))
    ∙ ap (writes_below (stamp + 1)) (IsHistoryFront-marked hart mark records taken history front is (StandsAt-mark hart mark front held))
    ∙ below_less (stamp + 1) mark (writes_by records) (omega arith)

-- of a hart without records a front holds nothing
pub IsHistoryFront-empty : (hart : ℕ) (records taken : List Record) (history front : List Note) → IsHistoryFront hart records taken history front
    → records ≡ [] → hart_writes hart (announced front) ≡ []
IsHistoryFront-empty hart records taken history front is none =
    let most = IsHistoryFront-writes hart records taken history front is in
    first_empty (hart_writes hart (announced front)) most.0 (most.1 ∙ ap writes_by none)
