use Rattle.dt_core.proofs.Reached.{IsReached-safe, IsReached-step, IsReached-same}
use Rattle.dt_core.proofs.worlds.step.Goals as goal

pub step-requires : goal.step-requires
step-requires g c = IsReached-safe _ _ g.met.J.Judgement.reads_no_later_writes c.w.invariant

pub invariant_of-w : goal.invariant_of-w
invariant_of-w g c = IsReached-same _ c.w.inside.core c.step.new.self c.w.invariant c.in_err-step.ensures.unchanged

pub invariant_of-w-2 : goal.invariant_of-w-2
invariant_of-w-2 g c = IsReached-step _ c.w.inside.core c.step.new.self c.args.s c.w.invariant c.in_ok-step.ensures.done
