use Rattle.std.proofs.Common.{ℕ, ◌≡◌, ◌-◌, ◌≤◌, ◌==◌, ◌⊎◌, Bool, true, false, cond, Option, Some, None, List, [], ◌∷◌, ◌++◌, length, map, take, drop, refl, sym, ap, ◌∙◌, subst, inl, inr, arith, eq-eqb, eqb-true}
use Rattle.std.specs.Prelude.{◌≢◌, IsTrue, option_map, option_to_list}
use Rattle.std.specs.List.{slice_get, list_all}
use Rattle.std.proofs.lemmas.Bool.{and_parts, both_ways, cases_Bool, ne_eqb}
use Rattle.std.proofs.lemmas.List.{append_assoc, append-nil, take_all, take-append-drop, take-append-le}
use Rattle.std.proofs.lemmas.List.Elements.{filter-append}
use mathlib.Core.List.{IsPrefix}
use Rattle.dt_core.proofs.Telling.{announced-push}
use Rattle.dt_lists.proofs.Lists.{filter-all, filter-kept, filter-dropped, list_all-drop, not_last}
use Rattle.dt_record.specs.declared.records.Record.{Record}
use Rattle.dt_record.specs.declared.writes.Write.{Write}
use Rattle.dt_record.specs.declared.writes.Note.{Note}
use Rattle.dt_record.specs.declared.writes.Note.TheVariants.{Wrote, Mark, End, Cut, Failure}
use Rattle.dt_writes.specs.OwnWrites.{own_writes_from}
use Rattle.dt_core.specs.Notes.{write_in, announced, hart_writes}
use Rattle.dt_intake.specs.Fronts.{usable_front}
use Rattle.dt_intake.specs.Intakes.{IntakeView, is_feed_end, usable_of, is_over, reach_of, news_of}
use Rattle.dt_intake.specs.Told.{is_of, own_notes, told_of, IsMarked, IsEnded, HasEnd, IsTold}
use Rattle.dt_intake.specs.Laws.{NothingIsTold, TakingKeepsTold, RoomKeepsTold, TellingGoesOn, OwnNotesDecide, NewsIsOfOneHart}
use Rattle.dt_intake.proofs.FrontLaws.{front_after-grows, front_after-whole, own-front_after}
use Rattle.dt_intake.proofs.Splits.{prefix-length, last-split, StandsIn, append-split, single, KeptAt, filter-split}
use Rattle.dt_intake.proofs.WriteLaws.{own_writes_from-parts, own-own_writes_from}

-- What notes tell of a hart.

pub Nothing-told : NothingIsTold
Nothing-told hart = record {
  within = omega arith;
  wrote = refl;
  marks = λ before after stamp is. absurd (not_last before after (Mark hart stamp) is);
  ends = λ before after is. absurd (not_last before after (End hart) is);
  end_stands = λ never. absurd (let no : ⊥ = cc in no);
}

pub Room-told : RoomKeepsTold
Room-told v room notes told = record { within = told.within; wrote = told.wrote; marks = told.marks; ends = told.ends; end_stands = told.end_stands }

-- one more record

not_ended : (v : IntakeView) (notes before after : List Note) → v.ended ≡ false → IsTold v notes → notes ≡ before ++ End v.hart ∷ after → ⊥
not_ended v notes before after goes told is = let over = told.ends before after is in both_ways v.ended goes over.ended_is

take-end : (v : IntakeView) (notes : List Note) → v.ended ≡ false → IsTold v notes → IsTold (record v { ended = true }) notes
take-end v notes goes told = record {
  within = told.within;
  wrote = told.wrote;
  marks = told.marks;
  ends = λ before after is. absurd (not_ended v notes before after goes told is);
  end_stands = told.end_stands;
}

take-more : (v : IntakeView) (r : Record) (notes : List Note) → v.ended ≡ false → IsTold v notes
    → IsTold (record v { taken = v.taken ++ r ∷ []; room = v.room - 1 }) notes
take-more v r notes goes told =
    let usable = usable_of v in
    let more = usable_front v.hart (v.taken ++ r ∷ []) in
    let grown : IsPrefix usable more = front_after-grows v.hart 0 0 v.taken (r ∷ []) in
    let few = prefix-length usable more grown in
    let same : take v.told more ≡ take v.told usable = ap (take v.told) (sym grown.1) ∙ take-append-le v.told usable grown.0 told.within in record {
      within = let low = told.within in omega arith;
      wrote = told.wrote ∙ ap (own_writes_from 0) (sym same);
      marks = λ before after stamp is.
          subst (λ (rs : List Record). IsMarked rs stamp (hart_writes v.hart (announced before))) (sym same) (told.marks before after stamp is);
      ends = λ before after is. absurd (not_ended v notes before after goes told is);
      end_stands = told.end_stands;
    }

pub Taking-told : TakingKeepsTold
Taking-told v r notes goes told = choice (is_feed_end r)
  where
    choice : (b : Bool) → IsTold (cond b (record v { ended = true }) (record v { taken = v.taken ++ r ∷ []; room = v.room - 1 })) notes
    choice true = take-end v notes goes told
    choice false = take-more v r notes goes told

-- the notes of the hart decide

-- a note that is not the hart's announces no write of it, and it is left out
announced-own : (hart : ℕ) (notes : List Note) → hart_writes hart (announced (own_notes hart notes)) ≡ hart_writes hart (announced notes)
announced-own hart [] = refl
announced-own hart (Wrote w ∷ ns) = elim (cases_Bool (w.key.hart == hart)) [
  | inl own ↦
      ap (λ (ms : List Note). hart_writes hart (announced ms)) (filter-kept (is_of hart) (Wrote w) ns own)
      ∙ filter-kept (λ (v : Write). v.key.hart == hart) w (announced (own_notes hart ns)) own
      ∙ ap (λ (ws : List Write). w ∷ ws) (announced-own hart ns)
      ∙ sym (filter-kept (λ (v : Write). v.key.hart == hart) w (announced ns) own)
  | inr other ↦
      ap (λ (ms : List Note). hart_writes hart (announced ms)) (filter-dropped (is_of hart) (Wrote w) ns other)
      ∙ announced-own hart ns
      ∙ sym (filter-dropped (λ (v : Write). v.key.hart == hart) w (announced ns) other)
]
announced-own hart (Mark h stamp ∷ ns) = elim (cases_Bool (h == hart)) [
  | inl own ↦ ap (λ (ms : List Note). hart_writes hart (announced ms)) (filter-kept (is_of hart) (Mark h stamp) ns own) ∙ announced-own hart ns
  | inr other ↦ ap (λ (ms : List Note). hart_writes hart (announced ms)) (filter-dropped (is_of hart) (Mark h stamp) ns other) ∙ announced-own hart ns
]
announced-own hart (End h ∷ ns) = elim (cases_Bool (h == hart)) [
  | inl own ↦ ap (λ (ms : List Note). hart_writes hart (announced ms)) (filter-kept (is_of hart) (End h) ns own) ∙ announced-own hart ns
  | inr other ↦ ap (λ (ms : List Note). hart_writes hart (announced ms)) (filter-dropped (is_of hart) (End h) ns other) ∙ announced-own hart ns
]
announced-own hart (Cut h cut ∷ ns) = announced-own hart ns
announced-own hart (Failure key ∷ ns) = announced-own hart ns

-- the part of own notes before one of them
own-before : (hart : ℕ) (notes others before after : List Note) (n : Note) → is_of hart n ≡ true → own_notes hart notes ≡ own_notes hart others
    → others ≡ before ++ n ∷ after → KeptAt (is_of hart) notes (own_notes hart before) n
own-before hart notes others before after n own same is =
    filter-split (is_of hart) notes (own_notes hart before) (own_notes hart after) n
    (same ∙ ap (own_notes hart) is ∙ filter-append (is_of hart) before (n ∷ after)
    ∙ ap (λ (ns : List Note). own_notes hart before ++ ns) (filter-kept (is_of hart) n after own))

same-before : (hart : ℕ) (earlier before : List Note) → own_notes hart earlier ≡ own_notes hart before
    → hart_writes hart (announced earlier) ≡ hart_writes hart (announced before)
same-before hart earlier before same =
    sym (announced-own hart earlier) ∙ ap (λ (ns : List Note). hart_writes hart (announced ns)) same ∙ announced-own hart before

pub Own-decides : OwnNotesDecide
Own-decides v notes others same told =
    let here : (v.hart == v.hart) ≡ true = eq-eqb v.hart v.hart refl in record {
      within = told.within;
      wrote = sym (same-before v.hart notes others same) ∙ told.wrote;
      marks = λ before after stamp is.
          let at = own-before v.hart notes others before after (Mark v.hart stamp) here same is in
          subst (λ (ws : List Write). IsMarked (told_of v) stamp ws) (same-before v.hart at.earlier before at.before_is)
          (told.marks at.earlier at.later stamp at.split);
      ends = λ before after is.
          let at = own-before v.hart notes others before after (End v.hart) here same is in
          subst (λ (ws : List Write). IsEnded v.hart v.taken v.ended ws) (same-before v.hart at.earlier before at.before_is)
          (told.ends at.earlier at.later at.split);
      end_stands = λ over.
          let found = told.end_stands over in
          let at = own-before v.hart others notes found.before found.after (End v.hart) here (sym same) found.split in
          record { before = at.earlier; after = at.later; split = at.split };
    }

-- the news

announced-wrote : (ws : List Write) → announced (map Wrote ws) ≡ ws
announced-wrote [] = refl
announced-wrote (w ∷ ws) = ap (λ (vs : List Write). w ∷ vs) (announced-wrote ws)

mark-short : (hart : ℕ) (o : Option Record) → length (option_to_list (option_map (λ (r : Record). Mark hart r.stamp) o)) ≤ 1
mark-short hart None = omega arith
mark-short hart (Some r) = omega arith

reach-short : (hart : ℕ) (over : Bool) (usable : List Record) → length (reach_of hart over usable) ≤ 1
reach-short hart true usable = omega arith
reach-short hart false usable = mark-short hart (slice_get usable (length usable - 1))

mark-silent : (hart : ℕ) (o : Option Record) → announced (option_to_list (option_map (λ (r : Record). Mark hart r.stamp) o)) ≡ []
mark-silent hart None = refl
mark-silent hart (Some r) = refl

reach-silent : (hart : ℕ) (over : Bool) (usable : List Record) → announced (reach_of hart over usable) ≡ []
reach-silent hart true usable = refl
reach-silent hart false usable = mark-silent hart (slice_get usable (length usable - 1))

-- a Mark is that of the last usable record
mark-is : (hart stamp : ℕ) (o : Option Record) → option_to_list (option_map (λ (r : Record). Mark hart r.stamp) o) ≡ Mark hart stamp ∷ []
    → (r : Record) × (o ≡ Some r) × (r.stamp ≡ stamp)
mark-is hart stamp None is = absurd (let never : ⊥ = cc in never)
mark-is hart stamp (Some r) is = (r, refl, cc)

reach-mark : (hart stamp : ℕ) (over : Bool) (usable : List Record) → reach_of hart over usable ≡ Mark hart stamp ∷ []
    → (r : Record) × (slice_get usable (length usable - 1) ≡ Some r) × (r.stamp ≡ stamp)
reach-mark hart stamp true usable is = absurd (let never : ⊥ = cc in never)
reach-mark hart stamp false usable is = mark-is hart stamp (slice_get usable (length usable - 1)) is

mark-no_end : (hart : ℕ) (o : Option Record) → option_to_list (option_map (λ (r : Record). Mark hart r.stamp) o) ≡ End hart ∷ [] → ⊥
mark-no_end hart None is = cc
mark-no_end hart (Some r) is = cc

reach-end : (hart : ℕ) (over : Bool) (usable : List Record) → reach_of hart over usable ≡ End hart ∷ [] → over ≡ true
reach-end hart true usable is = refl
reach-end hart false usable is = absurd (mark-no_end hart (slice_get usable (length usable - 1)) is)

-- a Mark or an End behind notes, writes and at most one note stands in the notes, or is that one
not_wrote : (ws : List Write) (between after : List Note) (n : Note) → write_in n ≡ None → map Wrote ws ≡ between ++ n ∷ after → ⊥
not_wrote [] between after n none is = not_last between after n is
not_wrote (w ∷ ws) [] after n none is =
    let same : Wrote w ≡ n = cc in
    let bad : Some w ≡ None = ap write_in same ∙ none in
    cc
not_wrote (w ∷ ws) (b ∷ bs) after n none is = let rest : map Wrote ws ≡ bs ++ n ∷ after = cc in not_wrote ws bs after n none rest

news-split : (notes : List Note) (ws : List Write) (reach before after : List Note) (n : Note) → write_in n ≡ None → length reach ≤ 1
    → notes ++ (map Wrote ws ++ reach) ≡ before ++ n ∷ after → StandsIn notes before n ⊎ ((before ≡ notes ++ map Wrote ws) × (reach ≡ n ∷ []))
news-split notes ws reach before after n none short is = elim (append-split notes (map Wrote ws ++ reach) before after n is) [
  | inl inside ↦ inl inside
  | inr behind ↦ elim (append-split (map Wrote ws) reach behind.between after n behind.split) [
    | inl wrote ↦ absurd (not_wrote ws behind.between wrote.after n none wrote.split)
    | inr last ↦
        let alone = single reach last.between after n short last.split in
        inr (
          behind.before_is ∙ ap (λ (ns : List Note). notes ++ ns) (last.before_is ∙ ap (λ (ns : List Note). map Wrote ws ++ ns) alone.0 ∙ append-nil (map Wrote ws)),
          alone.1,
        )
  ]
]

IsMarked-grows : (records more : List Record) (stamp : ℕ) (writes : List Write) → IsPrefix records more → IsMarked records stamp writes → IsMarked more stamp writes
IsMarked-grows records more stamp writes grown marked = record {
  first = marked.first;
  last = marked.last;
  more = marked.more ++ grown.0;
  split = sym grown.1 ∙ ap (λ (rs : List Record). rs ++ grown.0) marked.split ∙ append_assoc marked.first (marked.last ∷ marked.more) grown.0;
  its_stamp = marked.its_stamp;
  its_writes = marked.its_writes;
}

-- the writes of usable records that were not told
abbrev fresh_writes : IntakeView → List Write
fresh_writes v = own_writes_from v.told (drop v.told (usable_of v))

abbrev reach_in : IntakeView → List Note
reach_in v = reach_of v.hart (is_over v) (usable_of v)

fresh-own : (v : IntakeView) → list_all (λ (w : Write). w.key.hart == v.hart) (fresh_writes v) ≡ true
fresh-own v =
    own-own_writes_from v.hart v.told (drop v.told (usable_of v))
    (list_all-drop (λ (r : Record). r.hart == v.hart) v.told (usable_of v) (own-front_after v.hart 0 0 v.taken))

-- with them, the notes announce the writes of all usable records
wrote-all : (v : IntakeView) (notes : List Note) → IsTold v notes
    → hart_writes v.hart (announced (notes ++ map Wrote (fresh_writes v))) ≡ own_writes_from 0 (usable_of v)
wrote-all v notes told =
    announced-push v.hart notes (map Wrote (fresh_writes v))
    ∙ ap (λ (ws : List Write). hart_writes v.hart (announced notes) ++ ws)
    (ap (hart_writes v.hart) (announced-wrote (fresh_writes v)) ∙ filter-all (λ (w : Write). w.key.hart == v.hart) (fresh_writes v) (fresh-own v))
    ∙ ap (λ (ws : List Write). ws ++ fresh_writes v) told.wrote
    ∙ own_writes_from-parts v.told (usable_of v) told.within

all_told : (v : IntakeView) → take (length (usable_of v)) (usable_of v) ≡ usable_of v
all_told v = take_all (length (usable_of v)) (usable_of v) (omega arith)

tell-wrote : (v : IntakeView) (notes : List Note) → IsTold v notes
    → hart_writes v.hart (announced (notes ++ news_of v)) ≡ own_writes_from 0 (take (length (usable_of v)) (usable_of v))
tell-wrote v notes told =
    let wrote = notes ++ map Wrote (fresh_writes v) in
    ap (λ (ns : List Note). hart_writes v.hart (announced ns)) (sym (append_assoc notes (map Wrote (fresh_writes v)) (reach_in v)))
    ∙ announced-push v.hart wrote (reach_in v)
    ∙ ap (λ (ws : List Write). hart_writes v.hart (announced wrote) ++ hart_writes v.hart ws) (reach-silent v.hart (is_over v) (usable_of v))
    ∙ append-nil (hart_writes v.hart (announced wrote))
    ∙ wrote-all v notes told
    ∙ ap (own_writes_from 0) (sym (all_told v))

tell-mark : (v : IntakeView) (notes before after : List Note) (stamp : ℕ) → IsTold v notes → notes ++ news_of v ≡ before ++ Mark v.hart stamp ∷ after
    → IsMarked (take (length (usable_of v)) (usable_of v)) stamp (hart_writes v.hart (announced before))
tell-mark v notes before after stamp told is =
    elim (news-split notes (fresh_writes v) (reach_in v) before after (Mark v.hart stamp) refl (reach-short v.hart (is_over v) (usable_of v)) is) [
      | inl inside ↦
          let grown : IsPrefix (told_of v) (take (length (usable_of v)) (usable_of v)) = (drop v.told (usable_of v), take-append-drop v.told (usable_of v) ∙ sym (all_told v)) in
          IsMarked-grows (told_of v) (take (length (usable_of v)) (usable_of v)) stamp (hart_writes v.hart (announced before)) grown
          (told.marks before inside.after stamp inside.split)
      | inr last ↦
          let found = reach-mark v.hart stamp (is_over v) (usable_of v) last.1 in
          let parts = last-split (usable_of v) found.0 found.1 in record {
            first = parts.first;
            last = found.0;
            more = [];
            split = all_told v ∙ parts.split;
            its_stamp = found.2;
            its_writes = ap (λ (ns : List Note). hart_writes v.hart (announced ns)) last.0 ∙ wrote-all v notes told ∙ ap (own_writes_from 0) parts.split;
          }
    ]

tell-end : (v : IntakeView) (notes before after : List Note) → IsTold v notes → notes ++ news_of v ≡ before ++ End v.hart ∷ after
    → IsEnded v.hart v.taken v.ended (hart_writes v.hart (announced before))
tell-end v notes before after told is =
    elim (news-split notes (fresh_writes v) (reach_in v) before after (End v.hart) refl (reach-short v.hart (is_over v) (usable_of v)) is) [
      | inl inside ↦ told.ends before inside.after inside.split
      | inr last ↦
          let parts = and_parts v.ended (length (usable_of v) == length v.taken) (reach-end v.hart (is_over v) (usable_of v) last.1) in
          let whole : usable_of v ≡ v.taken = front_after-whole v.hart 0 0 v.taken (eqb-true (length (usable_of v)) (length v.taken) parts.1) in record {
            ended_is = parts.0;
            usable = whole;
            its_writes = ap (λ (ns : List Note). hart_writes v.hart (announced ns)) last.0 ∙ wrote-all v notes told ∙ ap (own_writes_from 0) whole;
          }
    ]

-- the news of a hart that is over ends with its End
tell-stands : (v : IntakeView) (notes : List Note) → IsTrue (is_over v) → HasEnd v.hart (notes ++ news_of v)
tell-stands v notes over = record {
  before = notes ++ map Wrote (fresh_writes v);
  after = [];
  split =
      ap (λ (b : Bool). notes ++ (map Wrote (fresh_writes v) ++ reach_of v.hart b (usable_of v))) over
      ∙ sym (append_assoc notes (map Wrote (fresh_writes v)) (End v.hart ∷ []));
}

pub Telling-told : TellingGoesOn
Telling-told v notes told = record {
  within = omega arith;
  wrote = tell-wrote v notes told;
  marks = λ before after stamp is. tell-mark v notes before after stamp told is;
  ends = λ before after is. tell-end v notes before after told is;
  end_stands = tell-stands v notes;
}

-- the news of another hart

wrote-other : (hart other : ℕ) (ws : List Write) → hart ≢ other → list_all (λ (w : Write). w.key.hart == other) ws ≡ true → own_notes hart (map Wrote ws) ≡ []
wrote-other hart other [] apart own = refl
wrote-other hart other (w ∷ ws) apart own =
    let parts = and_parts (w.key.hart == other) (list_all (λ (u : Write). u.key.hart == other) ws) own in
    let not_its : (w.key.hart == hart) ≡ false = ne_eqb w.key.hart hart (λ same. apart (sym same ∙ eqb-true w.key.hart other parts.0)) in
    filter-dropped (is_of hart) (Wrote w) (map Wrote ws) not_its ∙ wrote-other hart other ws apart parts.1

mark-other : (hart other : ℕ) (o : Option Record) → (other == hart) ≡ false
    → own_notes hart (option_to_list (option_map (λ (r : Record). Mark other r.stamp) o)) ≡ []
mark-other hart other None apart = refl
mark-other hart other (Some r) apart = filter-dropped (is_of hart) (Mark other r.stamp) [] apart

reach-other : (hart other : ℕ) (over : Bool) (usable : List Record) → (other == hart) ≡ false → own_notes hart (reach_of other over usable) ≡ []
reach-other hart other true usable apart = filter-dropped (is_of hart) (End other) [] apart
reach-other hart other false usable apart = mark-other hart other (slice_get usable (length usable - 1)) apart

pub News-own : NewsIsOfOneHart
News-own v hart apart =
    let not_its : (v.hart == hart) ≡ false = ne_eqb v.hart hart (λ same. apart (sym same)) in
    filter-append (is_of hart) (map Wrote (fresh_writes v)) (reach_in v)
    ∙ ap (λ (ns : List Note). ns ++ own_notes hart (reach_in v)) (wrote-other hart v.hart (fresh_writes v) apart (fresh-own v))
    ∙ reach-other hart v.hart (is_over v) (usable_of v) not_its
