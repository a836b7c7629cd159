use Rattle.std.proofs.Common.{ℕ, ◌≡◌, ◌≢◌, ◌+◌, ◌<◌, ◌≤◌, ◌==◌, Some, List, [], ◌∷◌, length, zero, suc, refl, sym, ap, ◌∙◌, subst, inl, inr, IsTrue, arith, length-append}
use Rattle.std.specs.List.{slice_get}
use Rattle.std.proofs.lemmas.Bool.{cases_eq, cases_lt, eq-eqb, ne_eqb, cond-true, cond-false}
use Rattle.std.proofs.lemmas.Option.{slice_get_within}
use Rattle.dt_lists.proofs.Lists.{slice_get-append_left, slice_get-append_seam}
use Rattle.dt_record.specs.declared.writes.Write.{Write}
use Rattle.dt_record.specs.declared.accesses.LoadAsk.{LoadAsk}
use Rattle.dt_record.specs.Actions.{Action, Loaded}
use Rattle.dt_record.specs.LoadSources.{Fits}
use Rattle.dt_versions.specs.History.{are_in_order}
use Rattle.dt_versions.specs.Laws.{SourcesRise}
use Rattle.dt_sources.specs.Choice.{FitsThere, FitsNext, ChoosesLeast, then_action, with_moment, LeastChoiceIsLeast, RefusalIsExact, LeastChoiceGoesOn}
use Rattle.dt_sources.proofs.Floors.{IsNoLater, fits_falls}
use Rattle.dt_sources.proofs.Fronts.{fits_along, front_is_same, same_back, front_fits}

-- The law of the least choice.

with_moment-here : (moments : ℕ → ℕ) (place k n : ℕ) → n ≡ place → with_moment moments place k n ≡ k
with_moment-here moments place k n same = cond-true (n == place) k (moments n) (eq-eqb n place same)

pub with_moment-elsewhere : (moments : ℕ → ℕ) (place k n : ℕ) → n ≢ place → with_moment moments place k n ≡ moments n
with_moment-elsewhere moments place k n apart = cond-false (n == place) k (moments n) (ne_eqb n place apart)

-- least choices are at no load later than any fitting assignment
chosen_no_later : SourcesRise → (image : List ℕ) (writes : List Write) (actions : List Action) (moments others : ℕ → ℕ) → IsTrue (are_in_order writes)
    → ChoosesLeast image writes actions moments → Fits image writes actions others
    → (bound place : ℕ) (ask : LoadAsk) → place < bound → slice_get actions place ≡ Some (Loaded ask) → moments place ≤ others place
chosen_no_later rises image writes actions moments others ordered chosen fits zero place ask below is = absurd (omega arith)
chosen_no_later rises image writes actions moments others ordered chosen fits (suc bound) place ask below is =
    chosen.least place ask is (others place)
    (fits_falls rises image writes actions moments others place ask (others place) ordered
    (record { at = λ m a before at. chosen_no_later rises image writes actions moments others ordered chosen fits bound m a (omega arith) at })
    (fits place ask is))

chosen_below : SourcesRise → (image : List ℕ) (writes : List Write) (actions : List Action) (moments others : ℕ → ℕ) → IsTrue (are_in_order writes)
    → ChoosesLeast image writes actions moments → Fits image writes actions others
    → (place : ℕ) (ask : LoadAsk) → slice_get actions place ≡ Some (Loaded ask) → moments place ≤ others place
chosen_below rises image writes actions moments others ordered chosen fits place ask is =
    chosen_no_later rises image writes actions moments others ordered chosen fits (place + 1) place ask (omega arith) is

-- an assignment that fits still fits where one load reads earlier and fits there
earlier_fits : SourcesRise → (image : List ℕ) (writes : List Write) (actions : List Action) (moments : ℕ → ℕ) (place k : ℕ) (ask : LoadAsk) → IsTrue (are_in_order writes)
    → Fits image writes actions moments → slice_get actions place ≡ Some (Loaded ask) → k ≤ moments place → FitsThere image writes actions moments place ask k
    → Fits image writes actions (with_moment moments place k)
earlier_fits rises image writes actions moments place k ask ordered fits is earlier there p a at =
    let others : ℕ → ℕ = with_moment moments place k in
    let no_later : IsNoLater actions p others moments = record { at = λ m b before at. lower m } in
    elim (cases_eq p place) [
      | inl same ↦
          let one : ask ≡ a = let both : Some (Loaded ask) ≡ Some (Loaded a) = sym is ∙ ap (λ n. slice_get actions n) (sym same) ∙ at in cc in
          subst (λ n. FitsThere image writes actions others p a n) (sym (with_moment-here moments place k p same))
          (fits_falls rises image writes actions others moments p a k ordered no_later
          (subst (λ n. FitsThere image writes actions moments n a k) (sym same) (subst (λ b. FitsThere image writes actions moments place b k) one there)))
      | inr apart ↦
          subst (λ n. FitsThere image writes actions others p a n) (sym (with_moment-elsewhere moments place k p apart))
          (fits_falls rises image writes actions others moments p a (moments p) ordered no_later (fits p a at))
    ]
  where
    lower : (m : ℕ) → with_moment moments place k m ≤ moments m
    lower m = elim (cases_eq m place) [
      | inl same ↦
          let there : moments m ≡ moments place = ap moments same in
          let here = with_moment-here moments place k m same in
          omega arith
      | inr apart ↦ let other = with_moment-elsewhere moments place k m apart in omega arith
    ]

pub least_is_least : SourcesRise → LeastChoiceIsLeast
least_is_least rises image writes actions moments ordered = (
  λ chosen. record {
    fits = chosen.fits;
    least = λ others fits place ask is. chosen_below rises image writes actions moments others ordered chosen fits place ask is;
  },
  λ sources. record {
    fits = sources.fits;
    least = λ place ask is k there. elim (cases_lt k (moments place)) [
      | inr low ↦ low
      | inl early ↦
          let least = sources.least (with_moment moments place k)
          (earlier_fits rises image writes actions moments place k ask ordered sources.fits is (omega arith) there) place ask is in
          let here = with_moment-here moments place k place refl in
          absurd (omega arith)
    ];
  },
)

-- the actions before a next one, under an assignment of their own moments
next_is_same : (actions : List Action) (action : Action) (moments : ℕ → ℕ) (k place : ℕ) → place ≤ length actions
    → (m : ℕ) → m < place → with_moment moments (length actions) k m ≡ moments m
next_is_same actions action moments k place within m before = with_moment-elsewhere moments (length actions) k m (λ same. omega arith)

-- a load that is not the next one is one of those before
pub earlier_load : (actions : List Action) (action found : Action) (place : ℕ) → slice_get (then_action actions action) place ≡ Some found
    → place < length actions → slice_get actions place ≡ Some found
earlier_load actions action found place is within = sym (slice_get-append_left actions (action ∷ []) place within) ∙ is

pub next_action : (actions : List Action) (action found : Action) (place : ℕ) → slice_get (then_action actions action) place ≡ Some found
    → length actions ≤ place → (place ≡ length actions) × (action ≡ found)
next_action actions action found place is past =
    let within = slice_get_within (then_action actions action) place found is in
    let last : place ≡ length actions = omega (arith, length-append actions (action ∷ [])) in
    let both : Some action ≡ Some found = sym (slice_get-append_seam actions action []) ∙ ap (λ n. slice_get (then_action actions action) n) (sym last) ∙ is in
    (last, cc)

next_fits : (image : List ℕ) (writes : List Write) (actions : List Action) (moments : ℕ → ℕ) (ask : LoadAsk) (k : ℕ)
    → Fits image writes actions moments → FitsNext image writes actions moments ask k
    → Fits image writes (then_action actions (Loaded ask)) (with_moment moments (length actions) k)
next_fits image writes actions moments ask k fits next place a is =
    let longer : List Action = then_action actions (Loaded ask) in
    let others : ℕ → ℕ = with_moment moments (length actions) k in
    elim (cases_lt place (length actions)) [
      | inl within ↦
          let apart = with_moment-elsewhere moments (length actions) k place (λ same. omega arith) in
          subst (λ n. FitsThere image writes longer others place a n) (sym apart)
          (fits_along image writes actions longer moments others place a (moments place)
          (same_back place longer actions others moments (front_is_same place actions (Loaded ask ∷ []) others moments (omega arith) (next_is_same actions (Loaded ask) moments k place (omega arith))))
          (fits place a (earlier_load actions (Loaded ask) (Loaded a) place is within)))
      | inr past ↦
          let last = next_action actions (Loaded ask) (Loaded a) place is past in
          let one : ask ≡ a = cc last.1 in
          subst (λ n. FitsThere image writes longer others place a n) (sym (with_moment-here moments (length actions) k place last.0))
          (subst (λ p. FitsThere image writes longer others p a k) (sym last.0)
          (subst (λ b. FitsThere image writes longer others (length actions) b k) one
          (fits_along image writes longer longer moments others (length actions) ask k
          (record {
            all = refl;
            front = λ m before. refl;
            found = λ m before. refl;
            moment = λ m before. sym (next_is_same actions (Loaded ask) moments k (length actions) (omega arith) m before);
          }) next)))
    ]

pub refusal_exact : SourcesRise → RefusalIsExact
refusal_exact rises image writes actions moments ask ordered chosen = (
  λ has.
      let others : ℕ → ℕ = has.0 in
      let longer : List Action = then_action actions (Loaded ask) in (
        others (length actions),
        fits_falls rises image writes longer moments others (length actions) ask (others (length actions)) ordered
            (record {
              at = λ m a before is. chosen_below rises image writes actions moments others ordered chosen (front_fits image writes actions (Loaded ask ∷ []) others has.1) m a
                  (earlier_load actions (Loaded ask) (Loaded a) m is before);
            })
            (has.1 (length actions) ask (slice_get-append_seam actions (Loaded ask) [])),
      ),
  λ some. (with_moment moments (length actions) some.0, next_fits image writes actions moments ask some.0 chosen.fits some.1),
)

pub goes_on : LeastChoiceGoesOn
goes_on = record {
  at_first = λ image writes moments. record {
    fits = λ place ask is. absurd (cc is);
    least = λ place ask is. absurd (cc is);
  };
  load = λ image writes actions moments ask k chosen next low. record {
    fits = next_fits image writes actions moments ask k chosen.fits next;
    least = λ place a is j there. next_least image writes actions moments ask k chosen low place a is j there;
  };
  other = λ image writes actions moments action chosen no_load. record {
    fits = λ place a is.
        let within = other_within actions action place a is no_load in
        fits_along image writes actions (then_action actions action) moments moments place a (moments place)
        (same_back place (then_action actions action) actions moments moments (front_is_same place actions (action ∷ []) moments moments (omega arith) (λ m before. refl)))
        (chosen.fits place a (earlier_load actions action (Loaded a) place is within));
    least = λ place a is j there.
        let within = other_within actions action place a is no_load in
        chosen.least place a (earlier_load actions action (Loaded a) place is within) j
        (fits_along image writes (then_action actions action) actions moments moments place a j
        (front_is_same place actions (action ∷ []) moments moments (omega arith) (λ m before. refl)) there);
  };
}
  where
    other_within : (actions : List Action) (action : Action) (place : ℕ) (a : LoadAsk) → slice_get (then_action actions action) place ≡ Some (Loaded a)
        → ((ask : LoadAsk) → action ≢ Loaded ask) → place < length actions
    other_within actions action place a is no_load = elim (cases_lt place (length actions)) [
      | inl within ↦ within
      | inr past ↦ absurd (no_load a (next_action actions action (Loaded a) place is past).1)
    ]

    next_least : (image : List ℕ) (writes : List Write) (actions : List Action) (moments : ℕ → ℕ) (ask : LoadAsk) (k : ℕ)
        → ChoosesLeast image writes actions moments → ((j : ℕ) → FitsNext image writes actions moments ask j → k ≤ j)
        → (place : ℕ) (a : LoadAsk) → slice_get (then_action actions (Loaded ask)) place ≡ Some (Loaded a)
        → (j : ℕ) → FitsThere image writes (then_action actions (Loaded ask)) (with_moment moments (length actions) k) place a j
        → with_moment moments (length actions) k place ≤ j
    next_least image writes actions moments ask k chosen low place a is j there =
        let longer : List Action = then_action actions (Loaded ask) in
        let others : ℕ → ℕ = with_moment moments (length actions) k in
        elim (cases_lt place (length actions)) [
          | inl within ↦
              let apart = with_moment-elsewhere moments (length actions) k place (λ same. omega arith) in
              let least = chosen.least place a (earlier_load actions (Loaded ask) (Loaded a) place is within) j
              (fits_along image writes longer actions others moments place a j
              (front_is_same place actions (Loaded ask ∷ []) others moments (omega arith) (next_is_same actions (Loaded ask) moments k place (omega arith))) there) in
              omega arith
          | inr past ↦
              let last = next_action actions (Loaded ask) (Loaded a) place is past in
              let one : a ≡ ask = cc last.1 in
              let here = with_moment-here moments (length actions) k place last.0 in
              let moved : FitsThere image writes longer others (length actions) ask j =
              subst (λ b. FitsThere image writes longer others (length actions) b j) one (subst (λ p. FitsThere image writes longer others p a j) last.0 there) in
              let least = low j (fits_along image writes longer longer others moments (length actions) ask j
              (record {
                all = refl;
                front = λ m before. refl;
                found = λ m before. refl;
                moment = λ m before. next_is_same actions (Loaded ask) moments k (length actions) (omega arith) m before;
              }) moved) in
              omega arith
        ]
