use Rattle.std.proofs.Common.{arith}
use Rattle.dt_worker.proofs.Steadiness.{taking_keeps}
use Rattle.dt_worker.proofs.workers.Worker.take_all.Goals as goal

pub invariant_of-self : goal.invariant_of-self
invariant_of-self g c =
    let size = c.take_all.ensures.size in record {
      steady = taking_keeps _ _ c.take_all.ensures c.self.invariant.steady;
      harts = c.self.invariant.harts;
      refused = c.self.invariant.refused;
      for_takes = let room = c.self.invariant.for_takes in omega arith;
      for_ends = let room = c.self.invariant.for_ends in omega arith;
    }
