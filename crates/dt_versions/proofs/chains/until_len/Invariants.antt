use Rattle.std.proofs.Common.{ℕ, ◌<◌, ◌≤◌, length, get_or}
use Rattle.dt_versions.proofs.chains.until_len.Given as goal

-- all numbers from `high` on are above k
abbrev pub invariant-back : goal.invariant-back
invariant-back l = record {
  within : l.high ≤ length l.chain;
  growing : 0 < l.step;
  above : (i d : ℕ) → l.high ≤ i → i < length l.chain → l.k < get_or l.chain i d;
}

abbrev pub decreases-back : goal.decreases-back
decreases-back l = l.high
