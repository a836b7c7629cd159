use Rattle.std.proofs.Common.{All, IfSome, List, refl, subst, arith}
use Rattle.std.proofs.lemmas.List.{take_all}
use Rattle.std.proofs.lemmas.List.Elements.{All-more}
use Rattle.dt_record.specs.Actions.{Held}
use Rattle.dt_record.specs.Keys.{KeyBelow}
use Rattle.dt_stores.proofs.drains.are_drained_before.Goals as goal

pub loop-e-preserved : goal.loop-e-preserved
loop-e-preserved c =
    All-more (λ (h : Held). IfSome h.drained (λ k. KeyBelow k c.args.key)) c.args.entries.now c.loop-e.e-index c.e-item.result (omega arith) c.loop-e.invariant
    (subst (λ (h : Held). IfSome h.drained (λ k. KeyBelow k c.args.key)) c.e-item.is (c.is_drained_before.ensures.0 c.if-not-is_drained_before.false))

pub returns : goal.returns
returns c =
    (λ t. subst (λ (l : List Held). All (λ h. IfSome h.drained (λ k. KeyBelow k c.args.key)) l) (take_all c.loop-e.e-index c.args.entries.now (omega arith)) c.loop-e.invariant, λ all. refl)
