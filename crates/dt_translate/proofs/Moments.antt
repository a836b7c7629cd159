-- The chosen moments, as values and as facts.
use Rattle.std.proofs.Common.{◌≡◌, ℕ, Bool, true, false, IsTrue, List, Option, Some, None, IsSomeAnd, option_map, option_and_then, is_some, refl, sym, ap, ◌∙◌, subst, arith}
use Rattle.std.proofs.lemmas.Bool.{false≢true}
use Rattle.std.proofs.lemmas.Bool.Decides.{nat_tests}
use Rattle.dt_record.specs.declared.writes.Write.{Write}
use Rattle.dt_versions.specs.declared.moments.Span.{Span}
use Rattle.dt_walk.specs.declared.arguments.WalkArgs.{WalkArgs}
use Rattle.dt_walk.specs.declared.arguments.WalkAnswer.{WalkAnswer}
use Rattle.dt_walk.specs.declared.arguments.WalkAnswer.TheVariants.{Page, PageFault, AccessFault}
use Rattle.dt_translate.specs.Fetches.{HasSource, IsChosen, IsFetched, IsNeverFetched, fetch_moments, held_moment, is_fetched}
use Rattle.dt_translate.specs.Newest.{HasNone, IsNewest, IsWithin, newest}
use Rattle.dt_translate.specs.Outcomes.{allowed_moment, is_answer, outcome_at}
use Rattle.dt_translate.specs.Laws.{AMomentAllows, APairFetches, ChosenIsNewest, ChosenPairIsNewest}
use Rattle.dt_translate.proofs.Newests.{newest-found, newest-holds, newest-none, newest-some}

is_answer-itself : (answer : WalkAnswer) → is_answer answer answer ≡ true
is_answer-itself (Page addr) = grind (arith, nat_tests)
is_answer-itself PageFault = refl
is_answer-itself AccessFault = refl

is_answer-same : (wanted answer : WalkAnswer) → IsTrue (is_answer wanted answer) → answer ≡ wanted
is_answer-same (Page wanted) (Page addr) is = ap Page (grind (arith, nat_tests))
is_answer-same (Page wanted) PageFault is = cc
is_answer-same (Page wanted) AccessFault is = cc
is_answer-same PageFault (Page addr) is = cc
is_answer-same PageFault PageFault is = refl
is_answer-same PageFault AccessFault is = cc
is_answer-same AccessFault (Page addr) is = cc
is_answer-same AccessFault PageFault is = cc
is_answer-same AccessFault AccessFault is = refl

module _ (image : List ℕ) (writes : List Write) (window : Span) (a : WalkArgs) where
  module _ (ram_only : Bool) (wanted : WalkAnswer) where
    abbrev GivesWanted : ℕ → Type 0
    GivesWanted k = outcome_at image writes k a ram_only ≡ wanted

    gives_answer : ℕ → Bool
    gives_answer k = is_answer wanted (outcome_at image writes k a ram_only)

    pub allowed_moment-some : (k : ℕ) → IsNewest GivesWanted window k → Some k ≡ allowed_moment image writes window a ram_only wanted
    unfolding allowed_moment gives_answer
    allowed_moment-some k is = sym (newest-some gives_answer window k (record {
      within = is.within;
      holds = subst (λ answer. is_answer wanted answer ≡ true) (sym is.holds) (is_answer-itself wanted);
      newest = λ j inside above passes. is.newest j inside above (is_answer-same wanted _ passes);
    }))

    GivesWanted-found : (k : ℕ) → IsWithin window k → GivesWanted k → (m : ℕ) × IsNewest GivesWanted window m
    unfolding gives_answer
    GivesWanted-found k inside gives =
        let found = newest-found gives_answer window k inside (subst (λ answer. is_answer wanted answer ≡ true) (sym gives) (is_answer-itself wanted)) in (
          found.0,
          record {
            within = found.1.within;
            holds = is_answer-same wanted _ found.1.holds;
            newest = λ j among above is. found.1.newest j among above (subst (λ answer. is_answer wanted answer ≡ true) (sym is) (is_answer-itself wanted));
          },
        )

    GivesWanted-newest : (m : ℕ) → allowed_moment image writes window a ram_only wanted ≡ Some m → IsNewest GivesWanted window m
    unfolding allowed_moment gives_answer
    GivesWanted-newest m is =
        let found = newest-holds gives_answer window m is in
        record {
          within = found.within;
          holds = is_answer-same wanted _ found.holds;
          newest = λ j among above gives. found.newest j among above (subst (λ answer. is_answer wanted answer ≡ true) (sym gives) (is_answer-itself wanted));
        }

    pub allowed_moment-found_at : (k : ℕ) → IsWithin window k → GivesWanted k → IsSomeAnd (allowed_moment image writes window a ram_only wanted) (IsNewest GivesWanted window)
    allowed_moment-found_at k inside gives =
        let found = GivesWanted-found k inside gives in
        subst (λ (o : Option ℕ). IsSomeAnd o (IsNewest GivesWanted window)) (allowed_moment-some found.0 found.1) found.1

    pub allowed_moment-none : HasNone GivesWanted window → None ≡ allowed_moment image writes window a ram_only wanted
    unfolding allowed_moment gives_answer
    allowed_moment-none none = sym (newest-none gives_answer window (λ j inside passes. none j inside (is_answer-same wanted _ passes)))

  module _ (since : Span) (half : ℕ) where
    has_source : ℕ → Bool
    has_source k1 = is_some (held_moment image writes since a half k1)

    sourceless : (k1 : ℕ) → ¬ (HasSource image writes since a half k1) → has_source k1 ≡ false
    unfolding has_source
    sourceless k1 none =
        ap is_some (newest-none (is_fetched image writes a half k1) since (λ k2 inside fetched. none (k2, inside, fetched)))

    pub fetch_moments-some : (k1 k2 : ℕ) → IsChosen image writes window since a half k1 k2 → Some (k1, k2) ≡ fetch_moments image writes window since a half
    unfolding fetch_moments has_source
    fetch_moments-some k1 k2 is =
        let held : held_moment image writes since a half k1 ≡ Some k2 = newest-some (is_fetched image writes a half k1) since k2 is.held in
        let translated : newest has_source window ≡ Some k1 = newest-some has_source window k1 (record {
          within = is.translated.within;
          holds = ap is_some held;
          newest = λ j inside above passes. let none = sourceless j (is.translated.newest j inside above) in cc;
        }) in
        sym (ap (option_and_then (λ k. option_map (λ j. (k, j)) (held_moment image writes since a half k))) translated ∙ ap (option_map (λ j. (k1, j))) held)

    pub fetch_moments-none : IsNeverFetched image writes window since a half → None ≡ fetch_moments image writes window since a half
    unfolding fetch_moments has_source
    fetch_moments-none never =
        let translated : newest has_source window ≡ None = newest-none has_source window (λ j inside passes.
        let none = sourceless j (λ source. never j source.0 inside source.1 source.2) in
        cc) in
        sym (ap (option_and_then (λ k. option_map (λ j. (k, j)) (held_moment image writes since a half k))) translated)

    has_source-at : (k1 : ℕ) → HasSource image writes since a half k1 → has_source k1 ≡ true
    unfolding has_source
    has_source-at k1 source =
        let found = newest-found (is_fetched image writes a half k1) since source.0 source.1 source.2 in
        ap is_some (newest-some (is_fetched image writes a half k1) since found.0 found.1)

    held_at : (k1 : ℕ) → has_source k1 ≡ true → (k2 : ℕ) × IsNewest (IsFetched image writes a half k1) since k2
    unfolding has_source
    held_at k1 has =
        elim (held_moment image writes since a half k1) as (λ o. held_moment image writes since a half k1 ≡ o → is_some o ≡ true → (k2 : ℕ) × IsNewest (IsFetched image writes a half k1) since k2) [
          | Some k2 ↦ λ is _. (k2, newest-holds (is_fetched image writes a half k1) since k2 is)
          | None ↦ λ _ no. absurd (false≢true no)
        ] refl has

    pair-from : (k1 k2 : ℕ) → newest has_source window ≡ Some k1 → held_moment image writes since a half k1 ≡ Some k2
        → IsChosen image writes window since a half k1 k2
    pair-from k1 k2 is held =
        let found = newest-holds has_source window k1 is in
        let second = newest-holds (is_fetched image writes a half k1) since k2 held in
        record {
          translated = record {
            within = found.within;
            holds = (k2, second.within, second.holds);
            newest = λ j among above source. found.newest j among above (has_source-at j source);
          };
          held = second;
        }

    -- two choices one after another
    abbrev paired : ℕ → ℕ → ℕ × ℕ
    paired k j = (k, j)

    both_chosen : (o : Option ℕ) (second : ℕ → Option ℕ) (k1 k2 : ℕ) → option_and_then (λ k. option_map (paired k) (second k)) o ≡ Some (paired k1 k2)
        → (o ≡ Some k1) × (second k1 ≡ Some k2)
    both_chosen None second k1 k2 is = absurd (let no : None ≡ Some (paired k1 k2) = is in cc)
    both_chosen (Some k) second k1 k2 is = by (second k) refl is
      where
        by : (found : Option ℕ) → second k ≡ found → option_map (paired k) found ≡ Some (paired k1 k2) → (Some k ≡ Some k1) × (second k1 ≡ Some k2)
        by None there gives = absurd (let no : None ≡ Some (paired k1 k2) = gives in cc)
        by (Some j) there gives =
            let pair : paired k j ≡ paired k1 k2 = cc in
            let first : k ≡ k1 = ap (λ (p : ℕ × ℕ). p.0) pair in
            let last : j ≡ k2 = ap (λ (p : ℕ × ℕ). p.1) pair in
            (ap Some first, ap second (sym first) ∙ there ∙ ap Some last)

    pair-newest : (k1 k2 : ℕ) → fetch_moments image writes window since a half ≡ Some (k1, k2) → IsChosen image writes window since a half k1 k2
    unfolding fetch_moments has_source
    pair-newest k1 k2 is =
        let both = both_chosen (newest has_source window) (held_moment image writes since a half) k1 k2 is in
        pair-from k1 k2 both.0 both.1

    pub fetch_moments-found_at : (k1 k2 : ℕ) → IsWithin window k1 → IsWithin since k2 → IsFetched image writes a half k1 k2
        → IsSomeAnd (fetch_moments image writes window since a half) (λ pair. IsChosen image writes window since a half pair.0 pair.1)
    fetch_moments-found_at k1 k2 inside held_inside fetched =
        let found = newest-found has_source window k1 inside (has_source-at k1 (k2, held_inside, fetched)) in
        let held = held_at found.0 found.1.holds in
        let chosen : IsChosen image writes window since a half found.0 held.0 = record {
          translated = record {
            within = found.1.within;
            holds = (held.0, held.1.within, held.1.holds);
            newest = λ j among above source. found.1.newest j among above (has_source-at j source);
          };
          held = held.1;
        } in
        subst (λ (o : Option (ℕ × ℕ)). IsSomeAnd o (λ pair. IsChosen image writes window since a half pair.0 pair.1)) (fetch_moments-some found.0 held.0 chosen) chosen

pub allowed_moment-newest : ChosenIsNewest
allowed_moment-newest image writes window a ram_only wanted = GivesWanted-newest image writes window a ram_only wanted

pub fetch_moments-chosen : ChosenPairIsNewest
fetch_moments-chosen image writes window since a half = pair-newest image writes window a since half

pub allowed_moment-found : AMomentAllows
allowed_moment-found image writes window a ram_only wanted = allowed_moment-found_at image writes window a ram_only wanted

pub fetch_moments-found : APairFetches
fetch_moments-found image writes window since a half = fetch_moments-found_at image writes window a since half
