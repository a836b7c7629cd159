use Rattle.std.proofs.Common.{◌≡◌, ℕ, arith, ap, ◌∙◌}
use Rattle.dt_record.specs.Marks.{least_mark}
use Rattle.dt_shared.proofs.Progresses.{least_step}
use Rattle.dt_shared.proofs.progress.least_of.Goals as goal

pub loop-hart-preserved : goal.loop-hart-preserved
loop-hart-preserved c = λ notes f. let end = c.loop-hart.auto.hart-end in
    least_step _ notes c.loop-hart.hart _ _ _ _ f (let test = c.loop-hart-test.true in omega (arith, c.ranges.harts.fits)) c.from.ensures c.lower-least.ensures (c.loop-hart.invariant notes f)

pub returns : goal.returns
returns c = λ notes f. let end = c.loop-hart.auto.hart-end in let e : c.loop-hart.hart ≡ c.args.harts = omega arith in c.loop-hart.invariant notes f ∙ ap (λ (n : ℕ). least_mark n notes) e
