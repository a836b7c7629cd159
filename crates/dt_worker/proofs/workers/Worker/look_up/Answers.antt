use Rattle.std.proofs.Common.{sym, ap, ◌∙◌, refl}
use Rattle.dt_shared.specs.Passes.{PassState}
use Rattle.dt_shared.specs.Replicas.{ReplicaState}
use Rattle.dt_worker.proofs.Steadiness.{looking_keeps, has_settled}
use Rattle.dt_worker.proofs.workers.Worker.look_up.Goals as goal

pub invariant_of-self : goal.invariant_of-self
invariant_of-self g c =
    let further = c.look_up.ensures.further in record {
      steady = looking_keeps c.passed_goes_on.ensures c.fronts_tell_all_writes.ensures _ _ _ _ _ refl c.self.invariant.harts further c.self.invariant.steady;
      harts = ap (λ (r : ReplicaState). r.harts) further.replica ∙ c.self.invariant.harts;
      refused = c.self.invariant.refused ∙ sym (ap (λ (p : PassState). p.stopped) further.pass);
      for_takes = c.self.invariant.for_takes;
      for_ends = c.self.invariant.for_ends;
    }

pub returns-clause-settled : goal.returns-clause-settled
returns-clause-settled g c =
    has_settled c.fronts_tell_all_writes.ensures _ _ _ _ _ _ refl c.self.invariant.harts c.look_up.ensures.further c.self.invariant.steady c.look_up.ensures.settled
