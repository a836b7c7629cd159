use Rattle.std.proofs.Common.{below_more, sym, ◌∙◌, arith}
use Rattle.std.proofs.lemmas.Bool.{false≢true}
use Rattle.dt_atomics.proofs.reading.has_newer.Goals as goal

pub loop-i-preserved : goal.loop-i-preserved
loop-i-preserved c = below_more _ _ c.loop-i.invariant cc

pub returns : goal.returns
returns c = (
  λ never. absurd (false≢true never),
  λ has. absurd (false≢true (sym (c.loop-i.invariant has.place (omega (arith, has.within))) ∙ has.newer)),
)
