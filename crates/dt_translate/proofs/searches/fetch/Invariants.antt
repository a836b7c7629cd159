use Rattle.std.proofs.Common.{ℕ, ◌<◌, ◌≤◌, IsTrue}
use Rattle.dt_translate.specs.Fetches.{IsFetched, stands_at}
use Rattle.dt_translate.specs.Newest.{IsWithin}
use Rattle.dt_translate.proofs.searches.fetch.Given as goal

-- no moment above this one fetches the halfword, and it stands nowhere where the last that was
-- tried led
abbrev pub invariant-down : goal.invariant-down
invariant-down l = record {
  within : l.moment ≤ l.fn.window.last;
  tried : (k1 k2 : ℕ) → IsWithin l.fn.window k1 → l.moment < k1 → IsWithin l.since k2 → ¬ (IsFetched l.m.image l.m.writes l.a l.half k1 k2);
  in_vain : (k2 : ℕ) → IsWithin l.since k2 → ¬ (IsTrue (stands_at l.m.image l.m.writes k2 l.half l.in_vain));
}

abbrev pub decreases-down : goal.decreases-down
decreases-down l = l.moment
