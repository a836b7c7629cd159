use Rattle.std.proofs.Common.{length, subst}
use Rattle.dt_core.specs.Machine.{CoreState}
use Rattle.dt_core.specs.Runs.{HoldsAfter}
use Rattle.dt_core.proofs.Reached.{IsReached-few, IsReached-holds}
use Rattle.dt_core.proofs.worlds.World.judged.Goals as goal

pub judged-requires-clause-few : goal.judged-requires-clause-few
judged-requires-clause-few g c = IsReached-few _ _ g.met.J.Judgement.reads_no_later_writes c.self.invariant c.args.hart

pub returns-clause-law : goal.returns-clause-law
returns-clause-law g c =
    subst (λ (d : CoreState _). HoldsAfter g.J.Judgement.meaning (length d.harts) d.file d) c.self.view_is
    (IsReached-holds _ c.self.inside.core g.met.J.Judgement.reads_no_later_writes c.self.invariant)
