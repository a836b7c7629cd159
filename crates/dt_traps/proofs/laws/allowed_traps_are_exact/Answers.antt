use Rattle.dt_traps.proofs.Exactness.{traps_exact}
use Rattle.dt_traps.proofs.laws.allowed_traps_are_exact.Goals as goal

pub returns : goal.returns
returns c = traps_exact (record {
  allowed = c.a_moment_is_found.ensures.allowed;
  fetched = c.a_moment_is_found.ensures.fetched;
  newest = c.a_moment_is_found.ensures.newest;
  newest_pair = c.a_moment_is_found.ensures.newest_pair;
})
