use Rattle.std.specs.Prelude.{ℕ, ◌≡◌, ◌≤◌, Bool, false, List, take, Some, IsSomeAnd}
use Rattle.dt_access.specs.Reaching.{reached}
use Rattle.dt_record.specs.declared.writes.Write.{Write}
use Rattle.dt_versions.specs.declared.moments.Span.{Span}
use Rattle.dt_walk.specs.declared.arguments.WalkArgs.{WalkArgs}
use Rattle.dt_walk.specs.declared.arguments.WalkAnswer.{WalkAnswer}
use Rattle.dt_walk.specs.declared.arguments.WalkAnswer.TheVariants.{Page}
use Rattle.dt_translate.specs.Fetches.{IsChosen, IsFetched, fetch_moments}
use Rattle.dt_translate.specs.Newest.{IsNewest, IsWithin}
use Rattle.dt_translate.specs.Outcomes.{allowed_moment, half_at, outcome_at}

-- Laws of translation over time (this project's own).

-- two lists of writes that begin alike give the same after so many of them
pub record AreAlikeAt (image : List ℕ) (ws vs : List Write) (k : ℕ) : Type 0 where
  pub outcomes : (a : WalkArgs) (ram_only : Bool) → outcome_at image ws k a ram_only ≡ outcome_at image vs k a ram_only
  pub halves : (addr : ℕ) → half_at image ws k addr ≡ half_at image vs k addr

-- the first writes decide
abbrev pub SameFirstWrites : Type 0
SameFirstWrites = (image : List ℕ) (ws vs : List Write) (last k : ℕ) → take last ws ≡ take last vs → k ≤ last
    → AreAlikeAt image ws vs k

-- two lists of writes that begin alike up to the ends of two spans have the same chosen moments
pub record AreAlikeWithin (image : List ℕ) (ws vs : List Write) (window since : Span) (a : WalkArgs) : Type 0 where
  pub allowed : (ram_only : Bool) (wanted : WalkAnswer)
      → allowed_moment image ws window a ram_only wanted ≡ allowed_moment image vs window a ram_only wanted
  pub fetched : (half : ℕ) → fetch_moments image ws window since a half ≡ fetch_moments image vs window since a half

abbrev pub SameWindows : Type 0
SameWindows = (image : List ℕ) (ws vs : List Write) (window since : Span) (a : WalkArgs)
    → take window.last ws ≡ take window.last vs → take since.last ws ≡ take since.last vs
    → AreAlikeWithin image ws vs window since a

-- where addresses are not translated, the outcome is the address itself at each moment
abbrev pub StaysUntranslated : Type 0
StaysUntranslated = (image : List ℕ) (writes : List Write) (k : ℕ) (a : WalkArgs) (ram_only : Bool) → a.on ≡ false
    → outcome_at image writes k a ram_only ≡ reached ram_only (Page a.va)

-- where some moment of a window gives the wanted outcome, one is chosen
abbrev pub AMomentAllows : Type 0
AMomentAllows = (image : List ℕ) (writes : List Write) (window : Span) (a : WalkArgs) (ram_only : Bool) (wanted : WalkAnswer) (k : ℕ)
    → IsWithin window k → outcome_at image writes k a ram_only ≡ wanted
    → IsSomeAnd (allowed_moment image writes window a ram_only wanted)
    (IsNewest (λ j. outcome_at image writes j a ram_only ≡ wanted) window)

-- where some moments of two spans fetch a halfword, a pair is chosen
abbrev pub APairFetches : Type 0
APairFetches = (image : List ℕ) (writes : List Write) (window since : Span) (a : WalkArgs) (half k1 k2 : ℕ)
    → IsWithin window k1 → IsWithin since k2 → IsFetched image writes a half k1 k2
    → IsSomeAnd (fetch_moments image writes window since a half) (λ pair. IsChosen image writes window since a half pair.0 pair.1)

-- what is chosen is the newest that passes
abbrev pub ChosenIsNewest : Type 0
ChosenIsNewest = (image : List ℕ) (writes : List Write) (window : Span) (a : WalkArgs) (ram_only : Bool) (wanted : WalkAnswer) (k : ℕ)
    → allowed_moment image writes window a ram_only wanted ≡ Some k → IsNewest (λ j. outcome_at image writes j a ram_only ≡ wanted) window k

abbrev pub ChosenPairIsNewest : Type 0
ChosenPairIsNewest = (image : List ℕ) (writes : List Write) (window since : Span) (a : WalkArgs) (half k1 k2 : ℕ)
    → fetch_moments image writes window since a half ≡ Some (k1, k2) → IsChosen image writes window since a half k1 k2
