-- What one moment of the window says of the chosen pair, and of there being none.
use Rattle.std.proofs.Common.{◌≡◌, ℕ, ◌<◌, ◌≤◌, List, sym, ◌∙◌, subst, true, IsTrue, inl, inr}
use Rattle.std.proofs.lemmas.Bool.{cases_lt}
use Rattle.dt_record.specs.declared.writes.Write.{Write}
use Rattle.dt_versions.specs.declared.moments.Span.{Span}
use Rattle.dt_walk.specs.declared.arguments.WalkArgs.{WalkArgs}
use Rattle.dt_walk.specs.declared.arguments.WalkAnswer.{WalkAnswer}
use Rattle.dt_translate.specs.Fetches.{IsChosen, IsFetched, stands_at}
use Rattle.dt_translate.specs.Newest.{HasNone, IsNewest, IsWithin}
use Rattle.dt_translate.specs.Outcomes.{outcome_at}

module _ (image : List ℕ) (writes : List Write) (window since : Span) (a : WalkArgs) (half : ℕ) where
  -- no moment of the window above this one fetches the halfword
  abbrev pub IsTriedAbove : ℕ → Type 0
  IsTriedAbove k = (k1 k2 : ℕ) → IsWithin window k1 → k < k1 → IsWithin since k2 → ¬ (IsFetched image writes a half k1 k2)

  pub IsChosen-newest : (k held : ℕ) (translated : WalkAnswer) → translated ≡ outcome_at image writes k a true
      → IsWithin window k → IsTriedAbove k → IsNewest (λ j. IsTrue (stands_at image writes j half translated)) since held
      → IsChosen image writes window since a half k held
  IsChosen-newest k held translated same within tried found =
      let newest : IsNewest (IsFetched image writes a half k) since held =
      subst (λ t. IsNewest (λ j. IsTrue (stands_at image writes j half t)) since held) same found in
      record {
        translated = record {
          within = within;
          holds = (held, newest.within, newest.holds);
          newest = λ j inside above source. tried j source.0 inside above source.1 source.2;
        };
        held = newest;
      }

  -- where the halfword never stands where a moment led, the moments are tried from which on all lead there
  pub IsTriedAbove-next : (from k : ℕ) (translated : WalkAnswer) → translated ≡ outcome_at image writes k a true
      → ((j : ℕ) → from ≤ j → j ≤ k → outcome_at image writes j a true ≡ outcome_at image writes k a true)
      → IsTriedAbove k → HasNone (λ j. IsTrue (stands_at image writes j half translated)) since → (k1 k2 : ℕ) → IsWithin window k1 → from ≤ k1 → IsWithin since k2 → ¬ (IsFetched image writes a half k1 k2)
  IsTriedAbove-next from k translated same steady tried none k1 k2 inside above held_in fetched = elim (cases_lt k k1) [
    | inl later ↦ tried k1 k2 inside later held_in fetched
    | inr here ↦ none k2 held_in (subst (λ t. IsTrue (stands_at image writes k2 half t)) (steady k1 above here ∙ sym same) fetched)
  ]
