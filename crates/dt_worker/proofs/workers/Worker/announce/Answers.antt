use Rattle.std.proofs.Common.{sym, ap, ◌∙◌, arith}
use Rattle.dt_shared.specs.Passes.{PassState}
use Rattle.dt_worker.proofs.Steadiness.{announced_keeps}
use Rattle.dt_worker.proofs.workers.Worker.announce.Goals as goal

pub invariant_of-self : goal.invariant_of-self
invariant_of-self g c =
    let said = c.announce.ensures in
    let both = announced_keeps c.announce.result _ _ _ said.lanes said.err said.seen (said.in_step c.self.invariant.steady.in_step) c.self.invariant.steady in
    let size = both.1 in record {
      steady = both.0;
      harts = c.self.invariant.harts;
      refused = c.self.invariant.refused ∙ sym (ap (λ (p : PassState). p.stopped) said.same);
      for_takes = let room = c.self.invariant.for_takes in omega arith;
      for_ends = let room = c.self.invariant.for_ends in omega arith;
    }
