use Rattle.std.proofs.Common.{ℕ, ◌≡◌, ◌+◌, ◌<◌, ◌≤◌, ◌↔◌, Bool, true, false, Some, List, [], ◌∷◌, length, zero, suc, if◌then◌else◌, Result, Ok, Err, IsTrue, inl, inr, refl, ap, ◌∙◌, arith}
use Rattle.std.specs.Prelude.{◌⊎◌, ◌≢◌, nat_lt, slice_get}
use Rattle.std.proofs.lemmas.Bool.{cases_eq, cond-true, cond-false, false≢true}
use Rattle.std.proofs.lemmas.Bool.Decides.{nat_tests}
use Rattle.dt_alu.specs.Extend.{extend_value}
use Rattle.dt_record.specs.declared.accesses.LoadAsk.{LoadAsk}
use Rattle.dt_record.specs.declared.origins.Origin.{Origin}
use Rattle.dt_record.specs.declared.origins.Origin.TheVariants as origin
use Rattle.dt_record.specs.declared.reasons.Reason.TheVariants.{LoadSource}
use Rattle.dt_record.specs.declared.writes.Write.{Write}
use Rattle.dt_record.specs.Actions.{Action, Loaded}
use Rattle.dt_record.specs.LoadSources.{AreLeastSources, origin_of}
use Rattle.dt_versions.specs.History.{are_in_order}
use Rattle.dt_sources.specs.Choice.{FitsNext, LeastChoiceGoesOn, LeastChoiceIsLeast, RefusalIsExact, then_action, with_moment}
use Rattle.dt_sources.specs.Finding.{AreSourcesAt}
use Rattle.dt_rules.specs.declared.misfits.Misfit.{Misfit}
use Rattle.dt_rules.specs.Checks.{misfit}
use Rattle.dt_rules.specs.declared.misfits.Passed.{Passed}
use Rattle.dt_loads.specs.Reading.{HasEightPlaces, HasNewer, IsLoadAnswer, IsReading, LoadsHaveAnAnswer, expected_load, load_letters}
use Rattle.dt_loads.proofs.Deciding.{fits_or_none, newer_or_not}

-- A load has an answer.

-- so many elements, from a place on
abbrev places : {X : Type 0} → (ℕ → X) → (place count : ℕ) → List X
places at place zero = []
places at place (suc count) = at place ∷ places at (place + 1) count

places-length : {X : Type 0} (at : ℕ → X) (place count : ℕ) → length (places at place count) ≡ count
places-length at place zero = refl
places-length at place (suc count) = let rest = places-length at (place + 1) count in omega arith

places-at : {X : Type 0} (at : ℕ → X) (place count i : ℕ) → i < count → slice_get (places at place count) i ≡ Some (at (place + i))
places-at at place zero i within = absurd (omega arith)
places-at at place (suc count) zero within = ap (λ n. Some (at n)) (let e : place ≡ place + 0 = omega arith in e)
places-at at place (suc count) (suc i) within = places-at at (place + 1) count i (omega arith) ∙ ap (λ n. Some (at n)) (let e : place + 1 + i ≡ place + suc i = omega arith in e)

-- the source of the byte at a place of a load, and the image past it
abbrev origin_in : List Write → List Action → LoadAsk → (k place : ℕ) → Origin
origin_in writes actions ask k place = if nat_lt place ask.width then origin_of writes actions ask k (ask.addr + place) else origin.Image

-- what is told of a load that is read at a moment
abbrev passed_at : List Write → List Action → LoadAsk → ℕ → Bool → Passed
passed_at writes actions ask k newer = record { letters = load_letters newer; sources = record { count = ask.width; from = places (origin_in writes actions ask k) 0 8 } }

sources_at : (writes : List Write) (actions : List Action) (ask : LoadAsk) (k : ℕ) (newer : Bool) → ask.width ≤ 8 → AreSourcesAt writes actions ask k (passed_at writes actions ask k newer).sources
sources_at writes actions ask k newer narrow =
    let at : ℕ → Origin = origin_in writes actions ask k in
    let there : (i : ℕ) → i < 8 → slice_get (places at 0 8) i ≡ Some (at i)
    = λ i low. places-at at 0 8 i low ∙ ap (λ n. Some (at n)) (let e : 0 + i ≡ i = omega arith in e) in record {
      count = refl;
      from = λ i within.
          let test : nat_lt i ask.width ≡ true = grind (arith, nat_tests) in
          there i (omega arith) ∙ ap (λ (o : Origin). Some o) (cond-true (nat_lt i ask.width) (origin_of writes actions ask k (ask.addr + i)) origin.Image test);
      no_more = λ i past low.
          let test : nat_lt i ask.width ≡ false = grind (arith, nat_tests) in
          there i low ∙ ap (λ (o : Origin). Some o) (cond-false (nat_lt i ask.width) (origin_of writes actions ask k (ask.addr + i)) origin.Image test);
    }

-- the letter L is right, whichever it is
letter : (writes : List Write) (actions : List Action) (moments : ℕ → ℕ) (ask : LoadAsk) (k : ℕ)
    → HasNewer writes actions moments ask k ⊎ ¬ HasNewer writes actions moments ask k → (l : Bool) × (IsTrue l ↔ HasNewer writes actions moments ask k)
letter writes actions moments ask k (inl has) = (true, (λ yes. has, λ is. refl))
letter writes actions moments ask k (inr none) = (false, (λ yes. absurd (false≢true yes), λ has. absurd (none has)))

pub record Laws : Type 0 where
  pub is_least : LeastChoiceIsLeast
  pub goes_on : LeastChoiceGoesOn
  pub exact : RefusalIsExact

-- where the least moment is known
read_at : Laws → (image : List ℕ) (writes : List Write) (actions : List Action) (moments : ℕ → ℕ) (ask : LoadAsk) (k : ℕ) (l : Bool) → ask.width ≤ 8 → IsTrue (are_in_order writes)
    → AreLeastSources image writes actions moments → FitsNext image writes actions moments ask k → ((j : ℕ) → FitsNext image writes actions moments ask j → k ≤ j)
    → IsTrue l ↔ HasNewer writes actions moments ask k → IsReading image writes actions moments ask (passed_at writes actions ask k l)
read_at laws image writes actions moments ask k l narrow ordered chosen fits least newer = record {
  moment = k;
  chosen =
      (laws.is_least image writes (then_action actions (Loaded ask)) (with_moment moments (length actions) k) ordered).0
      (laws.goes_on.load image writes actions moments ask k ((laws.is_least image writes actions moments ordered).1 chosen) fits least);
  sources = sources_at writes actions ask k l narrow;
  newer = newer;
  no_other = refl;
}

abbrev Answered : List ℕ → List Write → List Action → (ℕ → ℕ) → LoadAsk → Bool → ℕ → Type 0
Answered image writes actions moments ask signed value =
    (answer : Result Passed Misfit) × HasEightPlaces answer × IsLoadAnswer image writes actions moments ask signed value answer

pub an_answer : Laws → LoadsHaveAnAnswer
an_answer laws image writes actions moments ask signed value narrow ordered chosen = by_value (cases_eq (extend_value ask.width signed ask.raw) value)
  where
    by_moment : extend_value ask.width signed ask.raw ≡ value
        → ((k : ℕ) × FitsNext image writes actions moments ask k × ((j : ℕ) → FitsNext image writes actions moments ask j → k ≤ j))
        ⊎ ((k : ℕ) → ¬ FitsNext image writes actions moments ask k) → Answered image writes actions moments ask signed value
    by_moment extends (inl found) =
        let l = letter writes actions moments ask found.0 (newer_or_not writes actions moments ask found.0) in (
          Ok (passed_at writes actions ask found.0 l.0),
          places-length (origin_in writes actions ask found.0) 0 8,
          (extends, read_at laws image writes actions moments ask found.0 l.0 narrow ordered chosen found.1 found.2 l.1),
        )
    by_moment extends (inr none) =
        let exact = laws.exact image writes actions moments ask ordered ((laws.is_least image writes actions moments ordered).1 chosen) in (
          Err (misfit LoadSource (expected_load image writes actions ask signed) value),
          tt,
          (inr (λ has. let some = exact.0 has in none some.0 some.1), refl),
        )

    by_value : (extend_value ask.width signed ask.raw ≡ value) ⊎ (extend_value ask.width signed ask.raw ≢ value) → Answered image writes actions moments ask signed value
    by_value (inl extends) = by_moment extends (fits_or_none image writes actions moments ask)
    by_value (inr differs) = (Err (misfit LoadSource (expected_load image writes actions ask signed) value), tt, (inl differs, refl))
