use Rattle.std.proofs.Common.{ℕ, ◌≡◌, ◌+◌, ◌-◌, ◌<◌, ◌==◌, Bool, not, Option, Some, None, List, [], ◌∷◌, ◌++◌, length, get_or, take, drop, set, suc, zero, refl, sym, ap, ◌∙◌, inl, inr, arith, eq-eqb}
use Rattle.std.specs.Prelude.{slice_index, option_to_list, if◌then◌else◌}
use Rattle.std.specs.List.{slice_get, prefix_len, cons_option, insert}
use Rattle.std.proofs.lemmas.Bool.{cases_Bool, cond-true, cond-false}
use Rattle.std.proofs.lemmas.List.{append_assoc, append-nil, length-append}
use Rattle.std.proofs.lemmas.List.Elements.{filter_map-append}
use Rattle.std.proofs.Math.Seq.{take-suc}
use Rattle.dt_record.proofs.Inserting.{insert-later}
use Rattle.dt_record.specs.declared.records.Record.{Record}
use Rattle.dt_record.specs.declared.writes.Write.{Write}
use Rattle.dt_record.specs.declared.writes.Note.{Note}
use Rattle.dt_record.specs.Keys.{key_below}
use Rattle.dt_record.specs.Writes.{insert_write, write_of_record, counted, writes_after}
use Rattle.dt_record.specs.Marks.{stamp_in, marks_of, mark_of}
use Rattle.dt_core.specs.Marks.{mark_with}
use Rattle.dt_core.specs.declared.entries.Entry.{Entry}
use Rattle.dt_core.specs.Machine.{HartState, take_first, take_of, is_mine, news_by, told}
use Rattle.dt_core.specs.Notes.{notes_appended, entries_by}
use Rattle.dt_core.specs.Own.{AreOfHart}
use Rattle.dt_core.specs.Sound.{writes_by}
use Rattle.dt_core.proofs.Insertion.{insert-first}

-- What a loop needs for one more element.

take-one_more : {X : Type 0} (xs : List X) (i : ℕ) (d : X) → i < length xs → take (i + 1) xs ≡ take i xs ++ get_or xs i d ∷ []
take-one_more xs i d within = ap (λ n. take n xs) (let more : i + 1 ≡ suc i = omega arith in more) ∙ take-suc xs i d within

last-push : (ms : List ℕ) (s : ℕ) → slice_index (ms ++ s ∷ []) (length ms) ≡ s
last-push [] s = refl
last-push (m ∷ ms) s = last-push ms s

mark_of-push : (hart : ℕ) (notes : List Note) (n : Note) → mark_of hart (notes ++ n ∷ []) ≡ mark_with (mark_of hart notes) (stamp_in hart n)
mark_of-push hart notes n =
    ap (λ ms. slice_index ms (length ms - 1)) (filter_map-append (stamp_in hart) notes (n ∷ [])) ∙ by_stamp (marks_of hart notes) (stamp_in hart n)
  where
    by_stamp : (ms : List ℕ) (o : Option ℕ) → slice_index (ms ++ cons_option o []) (length (ms ++ cons_option o []) - 1) ≡ mark_with (slice_index ms (length ms - 1)) o
    by_stamp ms None = ap (λ xs. slice_index xs (length xs - 1)) (append-nil ms)
    by_stamp ms (Some s) =
        let count = length-append ms (s ∷ []) in
        let place : length (ms ++ s ∷ []) - 1 ≡ length ms = omega arith in
        ap (slice_index (ms ++ s ∷ [])) place ∙ last-push ms s

pub mark_of-more : (hart : ℕ) (notes : List Note) (i : ℕ) (d : Note) → i < length notes
    → mark_of hart (take (i + 1) notes) ≡ mark_with (mark_of hart (take i notes)) (stamp_in hart (get_or notes i d))
mark_of-more hart notes i d within = ap (mark_of hart) (take-one_more notes i d within) ∙ mark_of-push hart (take i notes) (get_or notes i d)

pub insert_write-at : (w : Write) (ws : List Write)
    → take (prefix_len (λ v. not (key_below w.key v.key)) ws) ws ++ w ∷ drop (prefix_len (λ v. not (key_below w.key v.key)) ws) ws ≡ insert_write w ws
insert_write-at w [] = refl
insert_write-at w (v ∷ vs) = elim (cases_Bool (key_below w.key v.key)) [
  | inl first ↦
      let none : prefix_len (λ u. not (key_below w.key u.key)) (v ∷ vs) ≡ 0 =
      cond-false (not (key_below w.key v.key)) (1 + prefix_len (λ u. not (key_below w.key u.key)) vs) 0 (ap not first) in
      ap (λ n. take n (v ∷ vs) ++ w ∷ drop n (v ∷ vs)) none ∙ sym (insert-first w v vs first)
  | inr later ↦
      let n = prefix_len (λ u. not (key_below w.key u.key)) vs in
      let more : prefix_len (λ u. not (key_below w.key u.key)) (v ∷ vs) ≡ suc n =
      cond-true (not (key_below w.key v.key)) (1 + n) 0 (ap not later) ∙ (let one : 1 + n ≡ suc n = omega arith in one) in
      ap (λ k. take k (v ∷ vs) ++ w ∷ drop k (v ∷ vs)) more ∙ ap (λ ws. v ∷ ws) (insert_write-at w vs) ∙ sym (insert-later w v vs later)
]

own-first : (hart : ℕ) (r : Record) (rs : List Record) → AreOfHart hart (r ∷ rs) → r.hart ≡ hart
own-first hart r rs own = (own 0 r refl).1

own-rest : (hart : ℕ) (r : Record) (rs : List Record) → AreOfHart hart (r ∷ rs) → AreOfHart hart rs
own-rest hart r rs own = λ i q found. own (suc i) q found

-- one more record of the hart has the next number
writes_after-more : (hart : ℕ) (seqs : ℕ → ℕ) (rs : List Record) (i : ℕ) (d : Record) → AreOfHart hart rs → i < length rs
    → writes_after seqs (take (suc i) rs) ≡ writes_after seqs (take i rs) ++ option_to_list (write_of_record (seqs hart + i) (get_or rs i d))
writes_after-more hart seqs [] i d own within = absurd (omega arith)
writes_after-more hart seqs (r ∷ rs) zero d own within =
    let number : seqs r.hart ≡ seqs hart + 0 = ap seqs (own-first hart r rs own) ∙ (let plain : seqs hart ≡ seqs hart + 0 = omega arith in plain) in
    append-nil (option_to_list (write_of_record (seqs r.hart) r)) ∙ ap (λ n. option_to_list (write_of_record n r)) number
writes_after-more hart seqs (r ∷ rs) (suc i) d own within =
    let same = own-first hart r rs own in
    let one : counted seqs r hart ≡ seqs hart + 1 = cond-true (hart == r.hart) (seqs hart + 1) (seqs hart) (eq-eqb hart r.hart (sym same)) in
    let number : counted seqs r hart + i ≡ seqs hart + suc i = omega arith in
    let first = option_to_list (write_of_record (seqs r.hart) r) in
    ap (λ ws. first ++ ws) (writes_after-more hart (counted seqs r) rs i d (own-rest hart r rs own) (omega arith))
    ∙ sym (append_assoc first (writes_after (counted seqs r) (take i rs)) (option_to_list (write_of_record (counted seqs r hart + i) (get_or rs i d))))
    ∙ ap (λ n. (first ++ writes_after (counted seqs r) (take i rs)) ++ option_to_list (write_of_record n (get_or rs i d))) number

pub writes_by-more : (hart : ℕ) (rs : List Record) (i : ℕ) (d : Record) → AreOfHart hart rs → i < length rs
    → writes_by (take (i + 1) rs) ≡ writes_by (take i rs) ++ option_to_list (write_of_record i (get_or rs i d))
writes_by-more hart rs i d own within =
    ap (λ n. writes_by (take n rs)) (let more : i + 1 ≡ suc i = omega arith in more)
    ∙ writes_after-more hart (λ (h : ℕ). 0) rs i d own within
    ∙ ap (λ n. writes_by (take i rs) ++ option_to_list (write_of_record n (get_or rs i d))) (let plain : 0 + i ≡ i = omega arith in plain)

pub mark_of-step : (hart : ℕ) (notes : List Note) (i : ℕ) (d : Note) (mark next : ℕ) → i < length notes → mark ≡ mark_of hart (take i notes)
    → next ≡ mark_with mark (stamp_in hart (get_or notes i d)) → next ≡ mark_of hart (take (i + 1) notes)
mark_of-step hart notes i d mark next within was is =
    is ∙ ap (λ m. mark_with m (stamp_in hart (get_or notes i d))) was ∙ sym (mark_of-more hart notes i d within)

pub writes_by-step : (hart : ℕ) (rs : List Record) (i : ℕ) (d : Record) (ws next : List Write) (o : Option Write) → AreOfHart hart rs → i < length rs
    → ws ≡ writes_by (take i rs) → o ≡ write_of_record i (get_or rs i d) → next ≡ ws ++ option_to_list o → next ≡ writes_by (take (i + 1) rs)
writes_by-step hart rs i d ws next o own within was made is =
    is ∙ ap (λ vs. vs ++ option_to_list o) was ∙ ap (λ v. writes_by (take i rs) ++ option_to_list v) made ∙ sym (writes_by-more hart rs i d own within)

pub insert_write-step : (w : Write) (ws xs next : List Write) (n : ℕ) → xs ≡ ws → n ≡ prefix_len (λ v. not (key_below w.key v.key)) xs → next ≡ insert ws n w
    → next ≡ insert_write w ws
insert_write-step w ws xs next n same place is =
    is ∙ ap (λ k. insert ws k w) (place ∙ ap (prefix_len (λ v. not (key_below w.key v.key))) same) ∙ insert_write-at w ws

drop-at : {X : Type 0} (xs : List X) (i : ℕ) (x : X) → slice_get xs i ≡ Some x → drop i xs ≡ x ∷ drop (suc i) xs
drop-at [] i x found = absurd (let never : ⊥ = cc in never)
drop-at (y ∷ ys) zero x found = ap (λ z. z ∷ ys) (let same : y ≡ x = cc in same)
drop-at (y ∷ ys) (suc i) x found = drop-at ys i x found

-- one hart less is left to be told of
pub told-next : {J : Type 0} (workers worker : ℕ) (is_ended : Bool) (harts : List (HartState J)) (i : ℕ) (s : HartState J) (all next total : List Entry)
    → slice_get harts i ≡ Some s
    → next ≡ (if is_mine workers worker i then all ++ entries_by worker (news_by is_ended i s (notes_appended all)) else all)
    → told workers worker is_ended i (drop i harts) all ≡ total → told workers worker is_ended (i + 1) (drop (i + 1) harts) next ≡ total
told-next workers worker is_ended harts i s all next total found is was =
    let more : i + 1 ≡ suc i = omega arith in
    ap (λ n. told workers worker is_ended n (drop n harts) next) more ∙ ap (told workers worker is_ended (suc i) (drop (suc i) harts)) is
    ∙ sym (ap (λ ss. told workers worker is_ended i ss all) (drop-at harts i s found)) ∙ was

set_itself : {X : Type 0} (xs : List X) (i : ℕ) (x : X) → slice_get xs i ≡ Some x → set xs i x ≡ xs
set_itself [] i x found = refl
set_itself (y ∷ ys) zero x found = ap (λ z. z ∷ ys) (let same : x ≡ y = cc in same)
set_itself (y ∷ ys) (suc i) x found = ap (λ zs. y ∷ zs) (set_itself ys i x found)

taken-first : {J : Type 0} (harts : List (HartState J)) (hart : ℕ) (s t : HartState J) (queue : List Record) → slice_get harts hart ≡ Some s → s.queue ≡ queue
    → ((r : Record) (rs : List Record) → s.queue ≡ r ∷ rs → t ≡ record s { queue = rs; taken = s.taken ++ r ∷ [] }) → (s.queue ≡ [] → t ≡ s)
    → set harts hart t ≡ take_first harts hart s queue
taken-first harts hart s t [] found is some none = ap (set harts hart) (none is) ∙ set_itself harts hart s found
taken-first harts hart s t (r ∷ rs) found is some none = ap (set harts hart) (some r rs is)

pub taken-step : {J : Type 0} (harts : List (HartState J)) (hart i : ℕ) (s t : HartState J) → i ≡ hart → slice_get harts hart ≡ Some s
    → ((r : Record) (rs : List Record) → s.queue ≡ r ∷ rs → t ≡ record s { queue = rs; taken = s.taken ++ r ∷ [] }) → (s.queue ≡ [] → t ≡ s)
    → set harts i t ≡ take_of harts hart (slice_get harts hart)
taken-step harts hart i s t place found some none =
    ap (λ n. set harts n t) place ∙ taken-first harts hart s t s.queue found refl some none ∙ sym (ap (take_of harts hart) found)

pub slice_get-at : {X : Type 0} (xs : List X) (i : ℕ) (d : X) → i < length xs → slice_get xs i ≡ Some (get_or xs i d)
slice_get-at [] i d within = absurd (omega arith)
slice_get-at (x ∷ xs) zero d within = refl
slice_get-at (x ∷ xs) (suc i) d within = slice_get-at xs i d (omega arith)
