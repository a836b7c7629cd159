use Rattle.std.proofs.Common.{◌≡◌, sym, subst, arith}
use Rattle.dt_record.specs.Marks.{least_mark}
use Rattle.dt_worker.specs.Steps.{HasSettled}
use Rattle.dt_worker.specs.Workers.{WorkerView}
use Rattle.dt_worker.proofs.Steadiness.{judging_steady}
use Rattle.dt_worker.proofs.workers.Worker.judge_all.Goals as goal

pub invariant_of-self : goal.invariant_of-self
invariant_of-self g c =
    let size = c.judge_all.ensures.size in record {
      steady =
          judging_steady c.below_mark_may_be_judged.ensures c.judged_is_passed.ensures _ _ _ _ c.moments.ensures
          (subst (λ (w : WorkerView). c.args.least ≡ least_mark w.harts w.notes) (sym c.self.view_is) c.requires.least)
          c.judge_all.ensures (subst HasSettled (sym c.self.view_is) c.requires.settled) c.self.invariant.steady;
      harts = c.self.invariant.harts;
      refused = c.self.invariant.refused;
      for_takes = let room = c.self.invariant.for_takes in omega arith;
      for_ends = let room = c.self.invariant.for_ends in omega arith;
    }
