use Rattle.std.proofs.Common.{◌↔◌, All, IfSome, IsTrue, List, ap, ◌∙◌, subst}
use Rattle.dt_record.specs.Actions.{Held}
use Rattle.dt_record.specs.Keys.{KeyBelow}
use Rattle.dt_stores.specs.Kept.{Kept}
use Rattle.dt_stores.proofs.buffer.Stores.can_drain.Goals as goal

pub returns : goal.returns
returns c =
    subst (λ (l : List Held). IsTrue c.are_drained_before.result ↔ All (λ h. IfSome h.drained (λ k. KeyBelow k c.args.key)) l) (c.deref.ensures.value ∙ ap (λ (k : Kept). k.held) c.self.view_is) c.are_drained_before.ensures
