use Rattle.std.proofs.Common.{◌∙◌}
use Rattle.dt_worker.proofs.EndLaws.{goes_further, end_of_later}
use Rattle.dt_worker.proofs.workers.Worker.run.Goals as goal

pub returns-in_default : goal.returns-in_default
returns-in_default g c =
    let turned = goes_further _ _ _ c.loop.invariant.0 c.turn.ensures.goes in
    end_of_later _ _ _ (goes_further _ _ _ turned c.stop.ensures.goes) c.into_end-in_default.ensures

pub returns-then-is_done : goal.returns-then-is_done
returns-then-is_done g c = end_of_later _ _ _ c.loop.invariant.0 c.into_end.ensures

pub returns-then-sees_stop : goal.returns-then-sees_stop
returns-then-sees_stop g c =
    let turned = goes_further _ _ _ c.loop.invariant.0 c.turn.ensures.goes in
    end_of_later _ _ _ (goes_further _ _ _ turned c.sees_stop.ensures.goes) c.into_end-then-sees_stop.ensures

pub loop-preserved-then-not-moved : goal.loop-preserved-then-not-moved
loop-preserved-then-not-moved g c =
    let turned = goes_further _ _ _ c.loop.invariant.0 c.turn.ensures.goes in (
      goes_further _ _ _ turned c.sees_stop.ensures.goes,
      c.sees_stop.ensures.goes.pass.of ∙ (c.turn.ensures.goes.pass.of ∙ c.loop.invariant.1),
    )

pub loop-preserved : goal.loop-preserved
loop-preserved g c =
    let turned = goes_further _ _ _ c.loop.invariant.0 c.turn.ensures.goes in (
      goes_further _ _ _ turned c.sees_stop.ensures.goes,
      c.sees_stop.ensures.goes.pass.of ∙ (c.turn.ensures.goes.pass.of ∙ c.loop.invariant.1),
    )
