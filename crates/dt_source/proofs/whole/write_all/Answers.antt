use Rattle.std.proofs.Common.{◌∙◌, arith}
use Rattle.std.proofs.lemmas.List.{take_rest}
use Rattle.dt_source.proofs.Steps.{Appends-more}
use Rattle.dt_source.proofs.whole.write_all.Goals as goal

pub loop-at-preserved : goal.loop-at-preserved
loop-at-preserved g c = record {
  within = omega (arith, c.in_ok-at.ensures.within);
  appended =
      Appends-more _ _ _ _ _ _ c.loop-at.invariant.appended
      (rw (take_rest c.args.text.now c.loop-at.at) at c.in_ok-at.ensures.appends);
  quiet = c.in_ok-at.ensures.quiet ∙ c.loop-at.invariant.quiet;
}
