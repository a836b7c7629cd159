use Rattle.std.proofs.Common.{ℕ, ◌+◌, ◌*◌, ◌<◌, ◌≤◌}
use Rattle.dt_versions.specs.Words.{IsSteady}
use Rattle.dt_refills.proofs.refilling.steady_words.Given as goal

abbrev pub invariant-loop-i : goal.invariant-loop-i
invariant-loop-i l = record {
  within : l.from ≤ l.k;
  steady : (j : ℕ) → j < l.i → IsSteady l.m.writes (l.line + 8 * j) l.from l.k;
}
