-- How far each hart has come, after one more note.
use Rattle.std.proofs.Common.{◌≡◌, ◌≢◌, ℕ, suc, ◌+◌, ◌-◌, ◌<◌, ◌≤◌, ◌||◌, ◌⊎◌, inl, inr, Bool, true, false, Option, Some, None, min, List, [], ◌∷◌, ◌++◌, get_or, set, take, drop, length, replicate, if◌then◌else◌, sym, refl, ap, ◌∙◌, subst, append_assoc, arith, eq-eqb, ne_eqb, length-append, length-set, length-drop, get_or-set_same, get_or-set_other}
use Rattle.std.specs.List.{list_any, cons_option}
use Rattle.std.proofs.lemmas.List.{append-nil, length-replicate, get_or-replicate, take_all, take_more, map-append, drop-map}
use Rattle.std.proofs.lemmas.List.Elements.{filter_map-append}
use Rattle.std.proofs.lemmas.Option.{slice_get-get_or, get_or_from_slice_get}
use Rattle.std.proofs.Math.Seq.{drop-append_seam}
use mathlib.Core.Logic.{dite}
use mathlib.Core.List.{IsPrefix}
use Rattle.std.proofs.lemmas.Bool.{or_right}
use native.Mathlib.Decide.{ℕ_discrete, dec_le}
use Rattle.dt_record.specs.declared.writes.Note.{Note}
use Rattle.dt_record.specs.declared.writes.Note.TheVariants.{Wrote, Mark, End, Cut, Failure}
use Rattle.dt_shared.specs.declared.entries.Entry.{Entry}
use Rattle.dt_shared.specs.declared.progress.Progress.{Progress}
use Rattle.dt_shared.specs.declared.progress.Progress.TheVariants.{At, Ended}
use Rattle.dt_shared.specs.Entries.{notes_in}
use Rattle.dt_record.specs.Marks.{stamp_in, ends, marks_of, mark_of, has_ended, least_with, least_mark}
use Rattle.dt_shared.specs.Replicas.{progress_of, Follows, marked_at, lower_of, IsNamed, followed}

last_snoc : (xs : List ℕ) (x : ℕ) → get_or (xs ++ x ∷ []) (length (xs ++ x ∷ []) - 1) 0 ≡ x
last_snoc [] x = refl
last_snoc (y ∷ ys) x =
    let long = length-append ys (x ∷ []) in let e : length ((y ∷ ys) ++ x ∷ []) - 1 ≡ suc (length (ys ++ x ∷ []) - 1) = omega arith in
    ap (λ (n : ℕ). get_or (y ∷ (ys ++ x ∷ [])) n 0) e ∙ last_snoc ys x

any_snoc : (test : Note → Bool) (notes : List Note) (note : Note) → list_any test (notes ++ note ∷ []) ≡ list_any test notes || test note
any_snoc test [] note = or_false (test note)
  where
    or_false : (b : Bool) → (b || false) ≡ (false || b)
    or_false true = refl
    or_false false = refl
any_snoc test (x ∷ xs) note = ap (λ b. test x || b) (any_snoc test xs note) ∙ or_assoc (test x)
  where
    or_assoc : (b : Bool) → (b || (list_any test xs || test note)) ≡ ((b || list_any test xs) || test note)
    or_assoc true = refl
    or_assoc false = refl

or_of_false : (a b : Bool) → b ≡ false → (a || b) ≡ a
or_of_false true b e = refl
or_of_false false b e = e

-- a note that is no Mark and no End of the hart leaves its progress
progress_kept : (hart : ℕ) (notes : List Note) (note : Note) → stamp_in hart note ≡ None → ends hart note ≡ false → progress_of hart (notes ++ note ∷ []) ≡ progress_of hart notes
progress_kept hart notes note unmarked goes_on =
    let marks : marks_of hart (notes ++ note ∷ []) ≡ marks_of hart notes =
    filter_map-append (stamp_in hart) notes (note ∷ []) ∙ (ap (λ (o : Option ℕ). marks_of hart notes ++ cons_option o []) unmarked ∙ append-nil (marks_of hart notes)) in
    let ended : has_ended hart (notes ++ note ∷ []) ≡ has_ended hart notes = any_snoc (ends hart) notes note ∙ or_of_false (has_ended hart notes) (ends hart note) goes_on in
    λ i. if ended i then Ended else At (get_or (marks i) (length (marks i) - 1) 0)

progress_marked : (hart stamp : ℕ) (notes : List Note) → progress_of hart (notes ++ Mark hart stamp ∷ []) ≡ marked_at (progress_of hart notes) stamp
progress_marked hart stamp notes =
    let this : stamp_in hart (Mark hart stamp) ≡ Some stamp = ap (λ b. if b then Some stamp else None) (eq-eqb hart hart refl) in
    let marks : marks_of hart (notes ++ Mark hart stamp ∷ []) ≡ marks_of hart notes ++ stamp ∷ [] =
    filter_map-append (stamp_in hart) notes (Mark hart stamp ∷ []) ∙ ap (λ (o : Option ℕ). marks_of hart notes ++ cons_option o []) this in
    let mark : mark_of hart (notes ++ Mark hart stamp ∷ []) ≡ stamp = ap (λ (ms : List ℕ). get_or ms (length ms - 1) 0) marks ∙ last_snoc (marks_of hart notes) stamp in
    let ended : has_ended hart (notes ++ Mark hart stamp ∷ []) ≡ has_ended hart notes = any_snoc (ends hart) notes (Mark hart stamp) ∙ or_of_false (has_ended hart notes) false refl in
    (λ i. if ended i then Ended else At (mark i)) ∙ at_mark (has_ended hart notes)
  where
    at_mark : (b : Bool) → (if b then Ended else At stamp) ≡ marked_at (if b then Ended else At (mark_of hart notes)) stamp
    at_mark true = refl
    at_mark false = refl

progress_ended : (hart : ℕ) (notes : List Note) → progress_of hart (notes ++ End hart ∷ []) ≡ Ended
progress_ended hart notes = ap (λ b. if b then Ended else At (mark_of hart (notes ++ End hart ∷ []))) (any_snoc (ends hart) notes (End hart) ∙ or_right (has_ended hart notes) (ends hart (End hart)) (eq-eqb hart hart refl))

-- one hart's progress changes
follows_set : (progress : List Progress) (notes : List Note) (note : Note) (hart : ℕ) (now : Progress) → Follows progress notes → hart < 256 → now ≡ progress_of hart (notes ++ note ∷ [])
    → ((other : ℕ) → other ≢ hart → progress_of other (notes ++ note ∷ []) ≡ progress_of other notes) → Follows (set progress hart now) (notes ++ note ∷ [])
follows_set progress notes note hart now f inside is others = let size = f.size in record {
  size = length-set progress hart now ∙ f.size;
  each = λ other below. let long = length-set progress hart now in dite (ℕ_discrete other hart)
      (λ e. slice_get-get_or (set progress hart now) other Ended (omega arith) ∙ ap Some (ap (λ (n : ℕ). get_or (set progress hart now) n Ended) e ∙ (get_or-set_same progress hart now Ended (omega arith) ∙ (is ∙ ap (λ (n : ℕ). progress_of n (notes ++ note ∷ [])) (sym e)))))
      (λ ne. slice_get-get_or (set progress hart now) other Ended (omega arith) ∙ ap Some (get_or-set_other progress hart other now Ended ne ∙ (get_or_from_slice_get progress other (progress_of other notes) Ended (f.each other below) ∙ sym (others other ne))));
}

follows_same : (progress : List Progress) (notes : List Note) (note : Note) → Follows progress notes → ((other : ℕ) → progress_of other (notes ++ note ∷ []) ≡ progress_of other notes) → Follows progress (notes ++ note ∷ [])
follows_same progress notes note f same = record { size = f.size; each = λ other below. f.each other below ∙ ap Some (sym (same other)) }

-- each note is followed
pub follows : (progress : List Progress) (notes : List Note) (note : Note) → IsNamed note → Follows progress notes → Follows (followed progress note) (notes ++ note ∷ [])
follows progress notes (Mark hart stamp) inside f =
    let was : get_or progress hart Ended ≡ progress_of hart notes = get_or_from_slice_get progress hart (progress_of hart notes) Ended (f.each hart inside) in
    follows_set progress notes (Mark hart stamp) hart (marked_at (get_or progress hart Ended) stamp) f inside (ap (λ p. marked_at p stamp) was ∙ sym (progress_marked hart stamp notes))
    (λ other ne. progress_kept other notes (Mark hart stamp) (ap (λ b. if b then Some stamp else None) (ne_eqb hart other (λ e. ne (sym e)))) refl)
follows progress notes (End hart) inside f =
    follows_set progress notes (End hart) hart Ended f inside (sym (progress_ended hart notes)) (λ other ne. progress_kept other notes (End hart) refl (ne_eqb hart other (λ e. ne (sym e))))
follows progress notes (Wrote w) inside f = follows_same progress notes (Wrote w) f (λ other. progress_kept other notes (Wrote w) refl refl)
follows progress notes (Cut hart cut) inside f = follows_same progress notes (Cut hart cut) f (λ other. progress_kept other notes (Cut hart cut) refl refl)
follows progress notes (Failure key) inside f = follows_same progress notes (Failure key) f (λ other. progress_kept other notes (Failure key) refl refl)

-- no note: each hart has the mark 0
pub follows_none : Follows (replicate 256 (At 0)) []
follows_none = record {
  size = length-replicate 256 (At 0);
  each = λ hart below. let long = length-replicate 256 (At 0) in slice_get-get_or (replicate 256 (At 0)) hart Ended (omega arith) ∙ ap Some (get_or-replicate 256 hart (At 0) Ended below);
}

min_cases : (a b : ℕ) → ((a ≤ b) × (min a b ≡ a)) ⊎ ((b ≤ a) × (min a b ≡ b))
min_cases a b = dite (dec_le a b) (λ le. inl (le, omega arith)) (λ gt. inr (omega arith, omega arith))

-- the least mark of one hart more
least_more : (hart : ℕ) (notes : List Note) → least_mark (suc hart) notes ≡ lower_of (least_mark hart notes) (progress_of hart notes)
least_more hart notes = by_end (has_ended hart notes) (least_mark hart notes)
  where
    by_end : (ended : Bool) (o : Option ℕ) → (if ended then o else Some (least_with (mark_of hart notes) o)) ≡ lower_of o (if ended then Ended else At (mark_of hart notes))
    by_end true o = refl
    by_end false None = refl
    by_end false (Some least) = refl

pub least_step : (progress : List Progress) (notes : List Note) (hart at : ℕ) (d : Progress) (least result : Option ℕ) → Follows progress notes → hart < 256 → at ≡ hart → result ≡ lower_of least (get_or progress at d)
    → least ≡ least_mark hart notes → result ≡ least_mark (hart + 1) notes
least_step progress notes hart at d least result f inside here is before =
    let was : get_or progress at d ≡ progress_of hart notes = ap (λ (n : ℕ). get_or progress n d) here ∙ get_or_from_slice_get progress hart (progress_of hart notes) d (f.each hart inside) in
    let next : suc hart ≡ hart + 1 = omega arith in
    is ∙ ap (lower_of least) was ∙ ap (λ o. lower_of o (progress_of hart notes)) before ∙ sym (least_more hart notes) ∙ ap (λ (n : ℕ). least_mark n notes) next

pub follows_more : (now later : List Progress) (notes : List Note) (entries : List Entry) (i : ℕ) (d : Entry) → i < length entries → Follows now (notes ++ notes_in (take i entries)) → later ≡ followed now (get_or entries i d).note → IsNamed (get_or entries i d).note
    → Follows later (notes ++ notes_in (take (i + 1) entries))
follows_more now later notes entries i d inside f is named =
    let e : Entry = get_or entries i d in
    let more : notes ++ notes_in (take (i + 1) entries) ≡ (notes ++ notes_in (take i entries)) ++ e.note ∷ [] =
    ap (λ (es : List Entry). notes ++ notes_in es) (take_more entries i d inside) ∙ (ap (λ ns. notes ++ ns) (map-append (λ (x : Entry). x.note) (take i entries) (e ∷ [])) ∙ sym (append_assoc notes (notes_in (take i entries)) (e.note ∷ []))) in
    subst (Follows later) (sym more) (subst (λ (p : List Progress). Follows p ((notes ++ notes_in (take i entries)) ++ e.note ∷ [])) (sym is) (follows now (notes ++ notes_in (take i entries)) e.note named f))

-- the notes that a replica lacks
pub rest_notes : (notes : List Note) (entries : List Entry) (n : ℕ) → IsPrefix notes (notes_in entries) → n ≡ length notes → notes ++ notes_in (take (length entries - n) (drop n entries)) ≡ notes_in entries
rest_notes notes entries n prefix is =
    let rest : List Note = prefix.0 in
    let all : take (length entries - n) (drop n entries) ≡ drop n entries = take_all (length entries - n) (drop n entries) (omega (arith, length-drop n entries)) in
    let from : notes_in (drop n entries) ≡ rest =
    sym (drop-map (λ (e : Entry). e.note) n entries) ∙ (ap (drop n) (sym prefix.1) ∙ (ap (λ (m : ℕ). drop m (notes ++ rest)) is ∙ drop-append_seam notes rest)) in
    ap (λ ns. notes ++ ns) (ap notes_in all ∙ from) ∙ prefix.1
