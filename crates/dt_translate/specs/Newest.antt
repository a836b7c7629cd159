use Rattle.std.specs.Prelude.{ℕ, ◌+◌, ◌-◌, ◌≤◌, ◌<◌, Bool, Option, reverse, find}
use Rattle.std.specs.List.{range_with_len}
use Rattle.dt_versions.specs.declared.moments.Span.{Span}

-- The newest moment of a span (this project's own).

-- a moment lies in a span; a span whose first moment is above its last has none
pub record IsWithin (span : Span) (k : ℕ) : Type 0 where
  pub from : span.first ≤ k
  pub to : k ≤ span.last

-- the newest moment of a span of which a fact holds
pub record IsNewest (Fact : ℕ → Type 0) (span : Span) (k : ℕ) : Type 0 where
  pub within : IsWithin span k
  pub holds : Fact k
  pub newest : (j : ℕ) → IsWithin span j → k < j → ¬ (Fact j)

-- no moment of a span of which the fact holds
abbrev pub HasNone : (ℕ → Type 0) → Span → Type 0
HasNone Fact span = (j : ℕ) → IsWithin span j → ¬ (Fact j)

-- the newest moment of a span that passes a test
unfoldable pub newest : (ℕ → Bool) → Span → Option ℕ
newest test span = find test (reverse (range_with_len span.first (span.last + 1 - span.first)))
