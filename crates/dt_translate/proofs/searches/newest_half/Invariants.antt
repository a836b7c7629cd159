use Rattle.std.proofs.Common.{◌==◌, ◌<◌, ◌≤◌, ℕ, IsTrue}
use Rattle.dt_translate.specs.Newest.{IsWithin}
use Rattle.dt_translate.specs.Outcomes.{half_at}
use Rattle.dt_translate.proofs.searches.newest_half.Given as goal

-- no moment above this one has the halfword
abbrev pub invariant-down : goal.invariant-down
invariant-down l = record {
  within : l.k ≤ l.fn.span.last;
  tried : (j : ℕ) → IsWithin l.fn.span j → l.k < j → ¬ (IsTrue (half_at l.m.image l.m.writes j l.addr == l.wanted));
}

abbrev pub decreases-down : goal.decreases-down
decreases-down l = l.k
