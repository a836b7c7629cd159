-- Records before a cut and from it on.
use Rattle.std.proofs.Common.{ℕ, ◌≡◌, ◌<◌, ◌≤◌, ◌+◌, Bool, true, not, List, [], ◌∷◌, ◌++◌, length, refl, sym, ap, ◌∙◌, arith, inl, inr, nat_lt, nat_le}
use Rattle.std.specs.List.{list_all}
use Rattle.std.proofs.lemmas.Bool.{and_parts, cases_Bool, le-leb, leb-true, lt-leb, lt-ltb, le-ltb, ltb-true, ltb-false, not_from_false}
use Rattle.std.proofs.lemmas.List.{append-nil, length-append}
use Rattle.std.proofs.lemmas.List.Elements.{filter-append}
use Rattle.dt_lists.proofs.Lists.{filter-all, filter-dropped, filter-kept, filter-none, list_all-weaker}
use Rattle.dt_record.specs.declared.records.Record.{Record}
use Rattle.dt_hart.specs.OwnWrites.{are_rising}
use Rattle.dt_kept.specs.declared.states.HartEvents.{HartEvents}
use Rattle.dt_kept.specs.Cutting.{records_before, records_from}
use Rattle.dt_kept.specs.Laws.{CutsSplitRecords, FrontsAreBeforeCuts}
use Rattle.dt_kept.specs.States.{AreEventsFrom}

abbrev before : ℕ → Record → Bool
before cut r = nat_lt r.stamp cut

abbrev behind : ℕ → Record → Bool
behind cut r = nat_le cut r.stamp

-- ---- one record more

pub earlier : (cut : ℕ) (own : List Record) (r : Record) (old new : HartEvents) → AreEventsFrom cut own old → r.stamp < cut → new.first ≡ old.first + 1
    → new.events.items ≡ old.events.items → AreEventsFrom cut (own ++ r ∷ []) new
earlier cut own r old new are below count same = record {
  first =
      let split = ap length (filter-append (before cut) own (r ∷ []) ∙ ap (λ (l : List Record). records_before cut own ++ l) (filter-kept (before cut) r [] (lt-ltb r.stamp cut below))) in
      omega (arith, count, are.first, split, length-append (records_before cut own) (r ∷ []));
  events =
      same ∙ are.events
      ∙ sym (filter-append (behind cut) own (r ∷ [])
      ∙ ap (λ (l : List Record). records_from cut own ++ l) (filter-dropped (behind cut) r [] (lt-leb cut r.stamp below))
      ∙ append-nil (records_from cut own));
}

pub later : (cut : ℕ) (own : List Record) (r : Record) (old new : HartEvents) → AreEventsFrom cut own old → cut ≤ r.stamp → new.first ≡ old.first
    → new.events.items ≡ old.events.items ++ r ∷ [] → AreEventsFrom cut (own ++ r ∷ []) new
later cut own r old new are above same pushed = record {
  first =
      same ∙ are.first
      ∙ ap length (sym (filter-append (before cut) own (r ∷ [])
      ∙ ap (λ (l : List Record). records_before cut own ++ l) (filter-dropped (before cut) r [] (le-ltb r.stamp cut above))
      ∙ append-nil (records_before cut own)));
  events =
      pushed ∙ ap (λ (l : List Record). l ++ r ∷ []) are.events
      ∙ sym (filter-append (behind cut) own (r ∷ [])
      ∙ ap (λ (l : List Record). records_from cut own ++ l) (filter-kept (behind cut) r [] (le-leb cut r.stamp above)));
}

-- ---- the laws

-- later records than one from the cut on are from it on too
all_behind : (cut : ℕ) (r : Record) (rs : List Record) → cut ≤ r.stamp → list_all (λ (q : Record). nat_le r.stamp q.stamp) rs ≡ true → list_all (behind cut) rs ≡ true
all_behind cut r rs above all =
    list_all-weaker (λ (q : Record). nat_le r.stamp q.stamp) (behind cut) rs (λ q rises. let high = leb-true r.stamp q.stamp rises in le-leb cut q.stamp (omega arith)) all

none_before : (cut : ℕ) (rs : List Record) → list_all (behind cut) rs ≡ true → records_before cut rs ≡ []
none_before cut rs all =
    filter-none (before cut) rs (list_all-weaker (behind cut) (λ r. not (before cut r)) rs (λ r above. not_from_false _ (le-ltb r.stamp cut (leb-true cut r.stamp above))) all)

none_behind : (cut : ℕ) (rs : List Record) → list_all (before cut) rs ≡ true → records_from cut rs ≡ []
none_behind cut rs all =
    filter-none (behind cut) rs (list_all-weaker (before cut) (λ r. not (behind cut r)) rs (λ r below. not_from_false _ (lt-leb cut r.stamp (ltb-true r.stamp cut below))) all)

pub cuts_split_records : CutsSplitRecords
cuts_split_records cut [] rising = refl
cuts_split_records cut (r ∷ rs) rising =
    let parts = and_parts (list_all (λ (q : Record). nat_le r.stamp q.stamp) rs) (are_rising rs) rising in
    elim (cases_Bool (before cut r)) [
      | inl below ↦
          let low = ltb-true r.stamp cut below in
          ap (λ (l : List Record). l ++ records_from cut (r ∷ rs)) (filter-kept (before cut) r rs below)
          ∙ ap (λ (l : List Record). r ∷ records_before cut rs ++ l) (filter-dropped (behind cut) r rs (lt-leb cut r.stamp low))
          ∙ ap (λ (l : List Record). r ∷ l) (cuts_split_records cut rs parts.1)
      | inr above ↦
          let high : cut ≤ r.stamp = ltb-false r.stamp cut above in
          let all = all_behind cut r rs high parts.0 in
          ap (λ (l : List Record). l ++ records_from cut (r ∷ rs)) (filter-dropped (before cut) r rs above ∙ none_before cut rs all)
          ∙ filter-kept (behind cut) r rs (le-leb cut r.stamp high)
          ∙ ap (λ (l : List Record). r ∷ l) (filter-all (behind cut) rs all)
    ]

pub fronts_are_before_cuts : FrontsAreBeforeCuts
fronts_are_before_cuts cut front more below above = (
  filter-append (before cut) front more
      ∙ ap (λ (l : List Record). l ++ records_before cut more) (filter-all (before cut) front below)
      ∙ ap (λ (l : List Record). front ++ l) (none_before cut more above)
      ∙ append-nil front,
  filter-append (behind cut) front more
      ∙ ap (λ (l : List Record). l ++ records_from cut more) (none_behind cut front below)
      ∙ filter-all (behind cut) more above,
)
