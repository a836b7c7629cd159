use Rattle.std.proofs.Common.{ℕ, ◌≡◌, ◌-◌, ◌<◌, ◌≤◌, true, length, get_or}
use Rattle.dt_versions.specs.Chains.{is_unchanged}
use Rattle.dt_versions.proofs.words.unchanged_until.Given as goal

-- the word is unchanged at all places up to `low`
abbrev pub invariant-ahead : goal.invariant-ahead
invariant-ahead l = record {
  within : l.low ≤ length l.chain;
  growing : 0 < l.step;
  below : (i d : ℕ) → l.from ≤ i → i < l.low → is_unchanged l.rows l.start l.limit (get_or l.chain i d) ≡ true;
}

abbrev pub decreases-ahead : goal.decreases-ahead
decreases-ahead l = length l.chain - l.low
