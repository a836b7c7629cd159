use Rattle.std.proofs.Common.{ℕ, ◌<◌, ◌≤◌, get_or}
use Rattle.dt_versions.specs.Words.{IsSteady}
use Rattle.dt_translate.proofs.tables.steady_from.Given as goal

abbrev pub invariant-loop-addr : goal.invariant-loop-addr
invariant-loop-addr l = record {
  within : l.from ≤ l.k;
  steady : (i d : ℕ) → i < l.addr-index → IsSteady l.moments.writes (get_or l.addresses i d) l.from l.k;
}
