use Rattle.std.proofs.Common.{ℕ, ◌≡◌, ◌-◌, ◌<◌, ◌==◌, ◌&&◌, Bool, true, false, not, nat_lt, Option, Some, None, List, [], ◌∷◌, ◌++◌, Contains, filter, length, slice_index, sym, refl, ap, ◌∙◌, subst, inl, inr, arith, eq-eqb}
use Rattle.std.specs.List.{list_all}
use Rattle.std.proofs.lemmas.Bool.{and_from, cases_Bool, not-true, not_from_false, both_ways, lt-ltb}
use Rattle.std.proofs.lemmas.List.{append_assoc, append-nil}
use Rattle.std.proofs.lemmas.List.Elements.{All-contains, All-contains_itself, All-weaker, Contains-append_right, filter-append, filter_map-append}
use Rattle.std.proofs.lemmas.List.Sums.{AllPass-from_list_all, list_all-from_AllPass}
use mathlib.Core.List.{IsPrefix}
use Rattle.dt_core.proofs.Insertion.{filter-by_key}
use Rattle.dt_lists.proofs.Lists.{filter-none}
use Rattle.dt_record.specs.declared.keys.Key.{Key}
use Rattle.dt_record.specs.declared.records.Record.{Record}
use Rattle.dt_record.specs.declared.writes.Note.{Note}
use Rattle.dt_record.specs.declared.writes.Note.TheVariants.{Mark, End}
use Rattle.dt_record.specs.declared.writes.Write.{Write}
use Rattle.dt_record.specs.Lawful.{is_ram_line}
use Rattle.dt_record.specs.Marks.{least_mark, mark_of}
use Rattle.dt_record.specs.Writes.{by_key, writes_of}
use Rattle.dt_versions.specs.History.{history, IsKept}
use Rattle.dt_writes.specs.Apart.{are_apart}
use Rattle.dt_writes.specs.Laws.{FileHistoryIsKept, WritesStandInOrder}
use Rattle.dt_writes.proofs.WriteOrder.{in_order-by_key}
use Rattle.dt_writes.proofs.WritesOfRecords.{key-write_of_record, line-write_of_record, length-by_key}
use Rattle.dt_core.specs.Laws.{HoldsBelow, WritesBelowMarkAreAll, BelowMarkMayBeJudged}
use Rattle.dt_core.specs.Marks.{is_below}
use Rattle.dt_core.specs.Notes.{write_in, announced}
use Rattle.dt_core.proofs.Announced.{StandsAt, StandsAt-end, HasMark-all}
use Rattle.dt_settled.specs.AllWrites.{IsMade, AreOrderly, FrontsTellAllWrites, AllWritesArePromised, FileWritesMayBeAll, OrderlyWritesMayBeAll}
use Rattle.dt_settled.specs.Settling.{TellBelow}
use Rattle.dt_settled.proofs.Insertion.{list_all-by_key}
use Rattle.dt_settled.proofs.Orders.{is_early, usable-early, list_all-parts}
use Rattle.dt_settled.proofs.SoundNotes.{apart_front, SoundNotesAreApart-all}

-- Which lists may be that of all writes.

-- fronts

prefix-chain : (xs ys zs : List Note) → IsPrefix xs ys → IsPrefix ys zs → IsPrefix xs zs
prefix-chain xs ys zs first second =
    (first.0 ++ second.0, sym (append_assoc xs first.0 second.0) ∙ ap (λ ns. ns ++ second.0) first.1 ∙ second.1)

front-apart : (front notes : List Note) → IsPrefix front notes → are_apart (announced notes) ≡ true → are_apart (announced front) ≡ true
front-apart front notes begins apart =
    apart_front (announced front) (announced begins.0)
    (ap are_apart (sym (filter_map-append write_in front begins.0) ∙ ap announced begins.1) ∙ apart)

pub fronts-tell : FrontsTellAllWrites
fronts-tell image harts front notes all begins are = record {
  kept = are.kept;
  apart = front-apart front notes begins are.apart;
  exact = λ first starts. are.exact first (prefix-chain first front notes starts begins);
}

pub all-promised : AllWritesArePromised
all-promised image harts front notes all begins are = record {
  kept = are.kept;
  apart = front-apart front notes begins are.apart;
  exact = are.exact front begins;
}

-- the writes of a file

pub writes-told : (least : Option ℕ) (notes : List Note) (file : List Record) → HoldsBelow least notes file → TellBelow least notes (writes_of file)
writes-told None notes file holds = holds
writes-told (Some least) notes file holds = holds

pub file-all : WritesBelowMarkAreAll → FileHistoryIsKept → WritesStandInOrder → FileWritesMayBeAll
file-all below kept in_order image harts file l each is sound = record {
  kept = kept image file is;
  apart = SoundNotesAreApart-all in_order file l l.history sound ([], append-nil l.history);
  exact = λ front begins. writes-told (least_mark harts front) front file (below harts file l front each sound begins);
}

-- the writes of an orderly history

-- what is so of all writes behind some notes is so of those behind more
test-behind : (p : Write → Bool) (after more : List Note) (w : Write) → list_all p (announced (after ++ more)) ≡ true → Contains (announced more) w → p w ≡ true
test-behind p after more w all held =
    All-contains (λ v. p v ≡ true) (announced more) w
    (AllPass-from_list_all p (announced more)
    (list_all-parts p (announced after) (announced more) (ap (list_all p) (sym (filter_map-append write_in after more)) ∙ all)).1) held

module _ (harts : ℕ) (front more : List Note) (is : AreOrderly harts (front ++ more)) (w : Write) (held : Contains (announced more) w) where
  maker : IsMade harts w
  maker =
      All-contains (IsMade harts) (announced (front ++ more)) w is.made
      (subst (λ (ws : List Write). Contains ws w) (sym (filter_map-append write_in front more)) (Contains-append_right (announced front) (announced more) w held))

  its-hart : w.key.hart < harts
  its-hart =
      let m : IsMade harts w = maker in
      subst (λ (h : ℕ). h < harts) (sym (ap (λ (k : Key). k.hart) (key-write_of_record m.seq m.maker w m.made))) m.hart

  split-behind : (note : Note) (place : StandsAt note front) → front ++ more ≡ place.before ++ note ∷ (place.after ++ more)
  split-behind note place = ap (λ ns. ns ++ more) place.split ∙ append_assoc place.before (note ∷ place.after) more

  own : (w.key.hart == w.key.hart) ≡ true
  own = eq-eqb w.key.hart w.key.hart refl

  not-ended : StandsAt (End w.key.hart) front → ⊥
  not-ended place =
      let none = is.ends place.before (place.after ++ more) w.key.hart (split-behind (End w.key.hart) place) in
      let other = test-behind (λ v. not (v.key.hart == w.key.hart)) place.after more w none held in
      both_ways (w.key.hart == w.key.hart) (not-true (w.key.hart == w.key.hart) other) own

  not-marked : (stamp : ℕ) → StandsAt (Mark w.key.hart stamp) front → w.key.stamp < stamp → ⊥
  not-marked stamp place above =
      let none = is.marks place.before (place.after ++ more) w.key.hart stamp (split-behind (Mark w.key.hart stamp) place) in
      let early : Write → Bool = λ v. (v.key.hart == w.key.hart) && nat_lt v.key.stamp stamp in
      let late = test-behind (λ v. not (early v)) place.after more w none held in
      both_ways (early w) (not-true (early w) late) (and_from (w.key.hart == w.key.hart) (nat_lt w.key.stamp stamp) own (lt-ltb w.key.stamp stamp above))

  not-early : BelowMarkMayBeJudged → is_below (least_mark harts front) w.key.stamp ≡ true → ⊥
  not-early judged below = elim (judged harts w.key.stamp front below w.key.hart its-hart) [
    | inl ended ↦ not-ended (StandsAt-end w.key.hart front ended)
    | inr above ↦ elim (HasMark-all w.key.hart front) [
      | inl none ↦
          let start : mark_of w.key.hart front ≡ 0 = ap (λ (ms : List ℕ). slice_index ms (length ms - 1)) none in
          absurd (omega arith)
      | inr place ↦ not-marked (mark_of w.key.hart front) place above
    ]
  ]

  is-late : BelowMarkMayBeJudged → is_early (least_mark harts front) w ≡ false
  is-late judged = elim (cases_Bool (is_early (least_mark harts front) w)) [
    | inl early ↦ absurd (not-early judged early)
    | inr late ↦ late
  ]

-- so a front tells all writes below its least mark
front-tells : BelowMarkMayBeJudged → (harts : ℕ) (front more : List Note) → AreOrderly harts (front ++ more)
    → TellBelow (least_mark harts front) front (by_key (announced (front ++ more)))
front-tells judged harts front more is =
    let least = least_mark harts front in
    let p = is_early least in
    let each : list_all (λ w. not (p w)) (announced more) ≡ true =
    list_all-from_AllPass (λ w. not (p w)) (announced more)
    (All-weaker (Contains (announced more)) (λ w. not (p w) ≡ true) (λ w held. not_from_false (p w) (is-late harts front more is w held judged)) (announced more)
    (All-contains_itself (announced more))) in
    let whole : filter p (announced (front ++ more)) ≡ filter p (announced front) =
    ap (filter p) (filter_map-append write_in front more) ∙ filter-append p (announced front) (announced more)
    ∙ ap (λ (ws : List Write). filter p (announced front) ++ ws) (filter-none p (announced more) each) ∙ append-nil (filter p (announced front)) in
    usable-early least (by_key (announced front)) ∙ filter-by_key p (announced front) ∙ ap by_key (sym whole)
    ∙ sym (filter-by_key p (announced (front ++ more))) ∙ sym (usable-early least (by_key (announced (front ++ more))))

orderly-kept : (image : List ℕ) (harts : ℕ) (notes : List Note) → AreOrderly harts notes → IsKept (history image (by_key (announced notes)))
orderly-kept image harts notes is = record {
  in_order = in_order-by_key (announced notes) is.apart;
  in_ram = list_all-by_key (λ w. is_ram_line w.line) (announced notes)
      ∙ list_all-from_AllPass (λ (w : Write). is_ram_line w.line) (announced notes)
      (All-weaker (IsMade harts) (λ w. is_ram_line w.line ≡ true) (λ w m. line-write_of_record m.seq m.maker w m.lawful m.made) (announced notes) is.made);
  within_limit = omega (arith, is.few, length-by_key (announced notes));
}

pub orderly-all : BelowMarkMayBeJudged → OrderlyWritesMayBeAll
orderly-all judged image harts notes is = record {
  kept = orderly-kept image harts notes is;
  apart = is.apart;
  exact = λ front begins.
      subst (λ (ns : List Note). TellBelow (least_mark harts front) front (by_key (announced ns))) begins.1
      (front-tells judged harts front begins.0 (subst (AreOrderly harts) (sym begins.1) is));
}
