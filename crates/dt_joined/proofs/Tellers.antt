-- The notes of one hart in a closed history, by the passes that appended them.
use Rattle.std.proofs.Common.{◌≡◌, ◌≢◌, ◌==◌, ℕ, Bool, true, false, List, [], ◌∷◌, get_or, filter, refl, sym, ap, ◌∙◌, subst, inl, inr, arith}
use Rattle.std.specs.Prelude.{All, Contains}
use Rattle.std.proofs.lemmas.Bool.{cases_Bool, cond-true, cond-false}
use Rattle.std.proofs.lemmas.Bool.Decides.{nat_tests}
use Rattle.std.proofs.lemmas.List.Elements.{All-nil, All-cons, All-head, All-tail, All-contains}
use Rattle.dt_record.specs.declared.writes.Note.{Note}
use Rattle.dt_intake.specs.Told.{is_of, own_notes}
use Rattle.dt_intake.specs.Laws.{OwnNotesDecide}
use Rattle.dt_shared.specs.declared.entries.Entry.{Entry}
use Rattle.dt_shared.specs.Entries.{notes_in, notes_of}
use Rattle.dt_shared.specs.Passes.{PassState}
use Rattle.dt_joined.specs.Joined.{AreAccounted}
use Rattle.dt_joined.specs.Laws.{OneTellerIsEnough, UntoldIsNotThere}

cons_is_no_nil : (n : Note) (ns : List Note) → n ∷ ns ≡ [] → ⊥
cons_is_no_nil n ns same = cc

eqb_of : (m n : ℕ) → m ≡ n → (m == n) ≡ true
eqb_of m n same = grind (arith, nat_tests)

absurd_of : (b : Bool) → b ≡ false → b ≡ true → ⊥
absurd_of true fails passes = cc
absurd_of false fails passes = cc

-- the entries of all other passes have no note of the hart
abbrev OthersAreSilent : (hart number : ℕ) → List Entry → Type 0
OthersAreSilent hart number closed = All (λ (e : Entry). e.pass ≢ number → is_of hart e.note ≡ false) closed

-- Where all other passes are silent on a hart, its notes are those of the one.
own_of_one : (hart number : ℕ) (closed : List Entry) → OthersAreSilent hart number closed
    → own_notes hart (notes_in closed) ≡ own_notes hart (notes_of number closed)
own_of_one hart number [] silent = refl
own_of_one hart number (e ∷ es) silent =
    let P : Entry → Type 0 = λ e. e.pass ≢ number → is_of hart e.note ≡ false in
    let rest = own_of_one hart number es (All-tail P e es silent) in
    elim (cases_Bool (e.pass == number)) [
      | inl its ↦
          let kept : notes_of number (e ∷ es) ≡ e.note ∷ notes_of number es = ap notes_in (cond-true (e.pass == number) (e ∷ filter (λ (x : Entry). x.pass == number) es) _ its) in
          elim (cases_Bool (is_of hart e.note)) [
            | inl of ↦
                cond-true (is_of hart e.note) _ _ of
                ∙ ap (λ (ns : List Note). e.note ∷ ns) rest
                ∙ sym (cond-true (is_of hart e.note) (e.note ∷ own_notes hart (notes_of number es)) _ of)
                ∙ ap (own_notes hart) (sym kept)
            | inr not ↦
                cond-false (is_of hart e.note) _ _ not
                ∙ rest
                ∙ sym (cond-false (is_of hart e.note) (e.note ∷ own_notes hart (notes_of number es)) _ not)
                ∙ ap (own_notes hart) (sym kept)
          ]
      | inr other ↦
          let apart : e.pass ≢ number = λ same. absurd_of (e.pass == number) other (eqb_of e.pass number same) in
          let left : notes_of number (e ∷ es) ≡ notes_of number es = ap notes_in (cond-false (e.pass == number) (e ∷ filter (λ (x : Entry). x.pass == number) es) _ other) in
          cond-false (is_of hart e.note) _ _ (All-head P e es silent apart) ∙ rest ∙ ap (own_notes hart) (sym left)
    ]

-- Where none of the notes of a list is the hart's, no note of it is.
none_of : (hart : ℕ) (notes : List Note) → own_notes hart notes ≡ [] → All (λ n. is_of hart n ≡ false) notes
none_of hart [] none = All-nil (λ (n : Note). is_of hart n ≡ false)
none_of hart (n ∷ ns) none = elim (cases_Bool (is_of hart n)) [
  | inl its ↦ absurd (cons_is_no_nil n (own_notes hart ns) (sym (cond-true (is_of hart n) _ _ its) ∙ none))
  | inr not ↦ All-cons (λ (n : Note). is_of hart n ≡ false) n ns not (none_of hart ns (sym (cond-false (is_of hart n) _ _ not) ∙ none))
]

-- what holds of all notes of a pass holds of the note of each entry of it
of_entries : (P : Note → Type 0) (number : ℕ) (closed : List Entry) → All P (notes_of number closed) → All (λ (e : Entry). e.pass ≡ number → P e.note) closed
of_entries P number [] all = All-nil (λ (e : Entry). e.pass ≡ number → P e.note)
of_entries P number (e ∷ es) all =
    let Q : Entry → Type 0 = λ e. e.pass ≡ number → P e.note in
    elim (cases_Bool (e.pass == number)) [
      | inl its ↦
          let kept : notes_of number (e ∷ es) ≡ e.note ∷ notes_of number es = ap notes_in (cond-true (e.pass == number) (e ∷ filter (λ (x : Entry). x.pass == number) es) _ its) in
          let all' : All P (e.note ∷ notes_of number es) = subst (All P) kept all in
          All-cons Q e es (λ same. All-head P e.note (notes_of number es) all') (of_entries P number es (All-tail P e.note (notes_of number es) all'))
      | inr other ↦
          let left : notes_of number (e ∷ es) ≡ notes_of number es = ap notes_in (cond-false (e.pass == number) (e ∷ filter (λ (x : Entry). x.pass == number) es) _ other) in
          All-cons Q e es (λ same. absurd (absurd_of (e.pass == number) other (eqb_of e.pass number same))) (of_entries P number es (subst (All P) left all))
    ]

-- a note of the hart in the history is one of a pass whose notes are not all foreign
silent_where : (hart number : ℕ) (passes : List PassState) (closed : List Entry) → AreAccounted passes closed
    → All (λ p. p.number ≢ number → own_notes hart p.own ≡ []) passes → OthersAreSilent hart number closed
silent_where hart number passes closed are others k d within apart =
    let e = get_or closed k d in
    let one = are.numbers k d within in
    let at = one.0 in
    let p = one.1 in
    let its : Contains passes p = (at, one.2, one.3) in
    let number_is : p.number ≡ e.pass = one.4 in
    let none : own_notes hart p.own ≡ [] = All-contains (λ (p : PassState). p.number ≢ number → own_notes hart p.own ≡ []) passes p others its (λ same. apart (sym number_is ∙ same)) in
    let own : p.own ≡ notes_of p.number closed = All-contains (λ (p : PassState). p.own ≡ notes_of p.number closed) passes p are.own its in
    let foreign = of_entries (λ n. is_of hart n ≡ false) p.number closed (none_of hart (notes_of p.number closed) (ap (own_notes hart) (sym own) ∙ none)) in
    foreign k d within (sym number_is)

pub one_teller : OwnNotesDecide → OneTellerIsEnough
one_teller decide passes closed v are by =
    let own : by.teller.own ≡ notes_of by.teller.number closed = All-contains (λ (p : PassState). p.own ≡ notes_of p.number closed) passes by.teller are.own by.its in
    let same : own_notes v.hart by.teller.own ≡ own_notes v.hart (notes_in closed)
    = ap (own_notes v.hart) own ∙ sym (own_of_one v.hart by.teller.number closed (silent_where v.hart by.teller.number passes closed are by.others)) in
    decide v by.teller.own (notes_in closed) same by.told

-- no entry has a note of the hart
nothing_of : (hart : ℕ) (closed : List Entry) → All (λ (e : Entry). is_of hart e.note ≡ false) closed → own_notes hart (notes_in closed) ≡ []
nothing_of hart [] foreign = refl
nothing_of hart (e ∷ es) foreign =
    let P : Entry → Type 0 = λ e. is_of hart e.note ≡ false in
    cond-false (is_of hart e.note) _ _ (All-head P e es foreign) ∙ nothing_of hart es (All-tail P e es foreign)

pub untold : UntoldIsNotThere
untold passes closed hart are none =
    nothing_of hart closed (λ k d within.
    let one = are.numbers k d within in
    let its : Contains passes one.1 = (one.0, one.2, one.3) in
    let own : one.1.own ≡ notes_of one.1.number closed = All-contains (λ (p : PassState). p.own ≡ notes_of p.number closed) passes one.1 are.own its in
    let empty : own_notes hart one.1.own ≡ [] = All-contains (λ (p : PassState). own_notes hart p.own ≡ []) passes one.1 none its in
    of_entries (λ n. is_of hart n ≡ false) one.1.number closed (none_of hart (notes_of one.1.number closed) (ap (own_notes hart) (sym own) ∙ empty)) k d within (sym one.4))
