use Rattle.std.proofs.Common.{◌∙◌, arith}
use Rattle.dt_source.proofs.Steps.{TakesFrom-more}
use Rattle.dt_source.proofs.whole.fill.Goals as goal

pub loop-at-preserved : goal.loop-at-preserved
loop-at-preserved g c = record {
  within = omega (arith, c.in-Ok.ensures.within);
  taken = TakesFrom-more _ _ _ _ _ _ _ c.loop-at.invariant.taken c.in-Ok.ensures.takes c.in-Ok.ensures.front_stays;
  quiet = c.in-Ok.ensures.quiet ∙ c.loop-at.invariant.quiet;
}
