use Rattle.std.proofs.Common.{ℕ, ◌≡◌, ◌==◌, true, List, [], ◌∷◌, ◌++◌, map, sym, ap, ◌∙◌, subst, inl, inr, eqb-true}
use Rattle.std.specs.List.{list_all}
use Rattle.std.proofs.lemmas.Bool.{and_parts, cases_Bool}
use Rattle.std.proofs.lemmas.List.{append_assoc, append-nil}
use Rattle.std.proofs.lemmas.List.Elements.{filter-append, filter_map-append}
use mathlib.Core.List.{IsPrefix}
use Rattle.dt_lists.proofs.Lists.{filter-kept, filter-dropped}
use Rattle.dt_record.specs.declared.keys.Key.{Key}
use Rattle.dt_record.specs.declared.records.Record.{Record}
use Rattle.dt_record.specs.declared.writes.Write.{Write}
use Rattle.dt_record.specs.declared.writes.Note.{Note}
use Rattle.dt_record.specs.declared.writes.Note.TheVariants.{Wrote, Mark, End, Cut, Failure}
use Rattle.dt_record.specs.Keys.{records_of}
use Rattle.dt_core.specs.Notes.{write_in, announced, hart_writes, writes_below}
use Rattle.dt_core.specs.Sound.{IsAnnounced, writes_by}
use Rattle.dt_core.proofs.Places.{push-split}

-- What a note has to be so that a history may go on with it.

-- what the history says of all harts, and that each failure in it is one of these
pub record IsTold (file : List Record) (taken : ℕ → List Record) (fails : Key → Type 0) (notes : List Note) : Type 0 where
  pub harts : (hart : ℕ) → IsAnnounced hart (records_of hart file) (taken hart) notes
  pub failures : (before after : List Note) (key : Key) → notes ≡ before ++ Failure key ∷ after → fails key

abbrev pub MayFollow : List Record → (ℕ → List Record) → (Key → Type 0) → List Note → Note → Type 0
MayFollow file taken fails notes (Wrote w) =
    (hart : ℕ) → IsPrefix (hart_writes hart (announced notes) ++ hart_writes hart (w ∷ [])) (writes_by (taken hart))
MayFollow file taken fails notes (Mark hart stamp) =
    writes_below stamp (hart_writes hart (announced notes)) ≡ writes_below stamp (writes_by (records_of hart file))
MayFollow file taken fails notes (End hart) = hart_writes hart (announced notes) ≡ writes_by (records_of hart file)
MayFollow file taken fails notes (Cut hart cut) = Unit {0}
MayFollow file taken fails notes (Failure key) = fails key

pub announced-push : (hart : ℕ) (notes more : List Note)
    → hart_writes hart (announced (notes ++ more)) ≡ hart_writes hart (announced notes) ++ hart_writes hart (announced more)
announced-push hart notes more =
    ap (hart_writes hart) (filter_map-append write_in notes more) ∙ filter-append (λ (w : Write). w.key.hart == hart) (announced notes) (announced more)

wrote-push : (file : List Record) (taken : ℕ → List Record) (fails : Key → Type 0) (notes : List Note) (n : Note) (hart : ℕ)
    → IsPrefix (hart_writes hart (announced notes)) (writes_by (taken hart)) → MayFollow file taken fails notes n
    → IsPrefix (hart_writes hart (announced (notes ++ n ∷ []))) (writes_by (taken hart))
wrote-push file taken fails notes (Wrote w) hart was follows =
    subst (λ (ws : List Write). IsPrefix ws (writes_by (taken hart))) (sym (announced-push hart notes (Wrote w ∷ []))) (follows hart)
wrote-push file taken fails notes (Mark h stamp) hart was follows =
    subst (λ (ws : List Write). IsPrefix ws (writes_by (taken hart))) (sym (announced-push hart notes (Mark h stamp ∷ []) ∙ append-nil _)) was
wrote-push file taken fails notes (End h) hart was follows =
    subst (λ (ws : List Write). IsPrefix ws (writes_by (taken hart))) (sym (announced-push hart notes (End h ∷ []) ∙ append-nil _)) was
wrote-push file taken fails notes (Cut h cut) hart was follows =
    subst (λ (ws : List Write). IsPrefix ws (writes_by (taken hart))) (sym (announced-push hart notes (Cut h cut ∷ []) ∙ append-nil _)) was
wrote-push file taken fails notes (Failure key) hart was follows =
    subst (λ (ws : List Write). IsPrefix ws (writes_by (taken hart))) (sym (announced-push hart notes (Failure key ∷ []) ∙ append-nil _)) was

pub IsTold-push : (file : List Record) (taken : ℕ → List Record) (fails : Key → Type 0) (notes : List Note) (n : Note)
    → IsTold file taken fails notes → MayFollow file taken fails notes n → IsTold file taken fails (notes ++ n ∷ [])
IsTold-push file taken fails notes n told follows = record {
  harts = λ hart. record {
    wrote = wrote-push file taken fails notes n hart (told.harts hart).wrote follows;
    marks = λ before after stamp is. elim (push-split notes before after n (Mark hart stamp) is) [
      | inl end ↦
          let last : MayFollow file taken fails notes (Mark hart stamp) = subst (MayFollow file taken fails notes) end.1 follows in
          ap (λ ns. writes_below stamp (hart_writes hart (announced ns))) (sym end.0) ∙ last
      | inr inside ↦ (told.harts hart).marks before inside.after stamp inside.split
    ];
    ends = λ before after is. elim (push-split notes before after n (End hart) is) [
      | inl end ↦
          let last : MayFollow file taken fails notes (End hart) = subst (MayFollow file taken fails notes) end.1 follows in
          ap (λ ns. hart_writes hart (announced ns)) (sym end.0) ∙ last
      | inr inside ↦ (told.harts hart).ends before inside.after inside.split
    ];
  };
  failures = λ before after key is. elim (push-split notes before after n (Failure key) is) [
    | inl end ↦ let last : MayFollow file taken fails notes (Failure key) = subst (MayFollow file taken fails notes) end.1 follows in last
    | inr inside ↦ told.failures before inside.after key inside.split
  ];
}

-- the writes that are still to be announced of a hart may follow, one after another
pub IsTold-writes : (file : List Record) (taken : ℕ → List Record) (fails : Key → Type 0) (notes : List Note) (hart : ℕ) (ws : List Write)
    → IsTold file taken fails notes → list_all (λ (w : Write). w.key.hart == hart) ws ≡ true
    → IsPrefix (hart_writes hart (announced notes) ++ ws) (writes_by (taken hart))
    → IsTold file taken fails (notes ++ map Wrote ws) × (hart_writes hart (announced (notes ++ map Wrote ws)) ≡ hart_writes hart (announced notes) ++ ws)
IsTold-writes file taken fails notes hart [] told own fits = (
  subst (λ (ns : List Note). IsTold file taken fails ns) (sym (append-nil notes)) told,
  ap (λ ns. hart_writes hart (announced ns)) (append-nil notes) ∙ sym (append-nil _),
)
IsTold-writes file taken fails notes hart (w ∷ ws) told own fits =
    let parts = and_parts (w.key.hart == hart) (list_all (λ (v : Write). v.key.hart == hart) ws) own in
    let held = hart_writes hart (announced notes) in
    let mine : hart_writes hart (w ∷ []) ≡ w ∷ [] = filter-kept (λ (v : Write). v.key.hart == hart) w [] parts.0 in
    let follows : MayFollow file taken fails notes (Wrote w) = λ h. elim (cases_Bool (w.key.hart == h)) [
      | inl own_hart ↦
          let same : hart ≡ h = sym (eqb-true w.key.hart hart parts.0) ∙ eqb-true w.key.hart h own_hart in
          subst (λ (k : ℕ). IsPrefix (hart_writes k (announced notes) ++ hart_writes k (w ∷ [])) (writes_by (taken k))) same (
            ws ++ fits.0,
            ap (λ vs. (held ++ vs) ++ (ws ++ fits.0)) mine ∙ sym (append_assoc (held ++ w ∷ []) ws fits.0)
                ∙ ap (λ vs. vs ++ fits.0) (append_assoc held (w ∷ []) ws) ∙ fits.1,
          )
      | inr other ↦
          let none : hart_writes h (w ∷ []) ≡ [] = filter-dropped (λ (v : Write). v.key.hart == h) w [] other in
          subst (λ (vs : List Write). IsPrefix vs (writes_by (taken h))) (sym (ap (λ vs. hart_writes h (announced notes) ++ vs) none ∙ append-nil _)) (told.harts h).wrote
    ] in
    let next = IsTold-push file taken fails notes (Wrote w) told follows in
    let grown : hart_writes hart (announced (notes ++ Wrote w ∷ [])) ≡ held ++ w ∷ [] = announced-push hart notes (Wrote w ∷ []) ∙ ap (λ vs. held ++ vs) mine in
    let regroup : (held ++ w ∷ []) ++ ws ≡ held ++ w ∷ ws = append_assoc held (w ∷ []) ws in
    let rest = IsTold-writes file taken fails (notes ++ Wrote w ∷ []) hart ws next parts.1
    (fits.0, ap (λ vs. (vs ++ ws) ++ fits.0) grown ∙ ap (λ vs. vs ++ fits.0) regroup ∙ fits.1) in
    let joined : (notes ++ Wrote w ∷ []) ++ map Wrote ws ≡ notes ++ map Wrote (w ∷ ws) = append_assoc notes (Wrote w ∷ []) (map Wrote ws) in (
      subst (λ (ns : List Note). IsTold file taken fails ns) joined rest.0,
      ap (λ ns. hart_writes hart (announced ns)) (sym joined) ∙ rest.1 ∙ ap (λ vs. vs ++ ws) grown ∙ regroup,
    )
