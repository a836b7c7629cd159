use Rattle.std.proofs.Common.{◌≡◌, ◌<◌, ◌≤◌, ℕ}
use Rattle.dt_translate.specs.Newest.{IsWithin}
use Rattle.dt_translate.specs.Outcomes.{outcome_at}
use Rattle.dt_translate.proofs.searches.allowed.Given as goal

-- no moment above this one gives the outcome
abbrev pub invariant-down : goal.invariant-down
invariant-down l = record {
  within : l.k ≤ l.fn.window.last;
  tried : (j : ℕ) → IsWithin l.fn.window j → l.k < j → ¬ (outcome_at l.m.image l.m.writes j l.a l.ram_only ≡ l.wanted);
}

abbrev pub decreases-down : goal.decreases-down
decreases-down l = l.k
