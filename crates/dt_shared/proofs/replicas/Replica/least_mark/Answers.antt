use Rattle.std.proofs.Common.{◌≡◌, subst}
use Rattle.dt_shared.specs.Replicas.{ReplicaState}
use Rattle.dt_record.specs.Marks.{least_mark}
use Rattle.dt_shared.proofs.replicas.Replica.least_mark.Goals as goal

pub returns : goal.returns
returns c = subst (λ (r : ReplicaState). c.least_of.result ≡ least_mark r.harts r.notes) c.self.view_is (c.least_of.ensures c.self.inside.notes.items c.self.invariant)
