use Rattle.std.proofs.Common.{◌≡◌, true, [], ◌∷◌, ◌++◌, ap, sym, subst, ◌∙◌}
use Rattle.dt_snapshot.specs.Cuts.{reaches_new}
use Rattle.dt_snapshot.specs.Keeping.{AreNew, last_cycle}
use Rattle.dt_snapshot.proofs.Held.{AreNew-more, held-pushed, held-unpushed, reached-pushed}
use Rattle.dt_snapshot.proofs.keepers.Keeper.cross.Goals as goal

pub invariant_of-self-then-reaches_new : goal.invariant_of-self-then-reaches_new
invariant_of-self-then-reaches_new g c = record {
  some_interval = c.self.invariant.some_interval;
  new =
      let is : c.last_cycle.result ≡ last_cycle c.self.inside.dropped c.self.inside.states.items =
      c.last_cycle.ensures ∙ ap (last_cycle c.self.inside.dropped) (c.deref.ensures.value ∙ c.reserve.ensures.items) in
      let reaches : reaches_new c.self.inside.interval (last_cycle c.self.inside.dropped c.self.inside.states.items) c.args.stamp ≡ true =
      ap (λ o. reaches_new c.self.inside.interval o c.args.stamp) (sym is) ∙ sym c.reaches_new.ensures ∙ c.if-reaches_new.true in
      subst (AreNew c.self.inside.interval c.self.inside.dropped)
      (sym (c.push_reserved.ensures.items ∙ ap (λ ss. ss ++ (c.args.stamp, c.args.state) ∷ []) c.reserve.ensures.items))
      (AreNew-more c.self.inside.interval c.args.stamp c.args.state c.self.inside.dropped c.self.inside.states.items c.self.invariant.new reaches);
}

pub returns-then-reaches_new-clause-holds : goal.returns-then-reaches_new-clause-holds
returns-then-reaches_new-clause-holds g c =
    held-pushed _ _ _ _ c.self.inside.states.items _ c.args.stamp c.args.state c.last_cycle.result c.self.view_is c.self.invariant.some_interval c.self.invariant.new
    (c.last_cycle.ensures ∙ ap (last_cycle c.self.inside.dropped) (c.deref.ensures.value ∙ c.reserve.ensures.items)) (sym c.reaches_new.ensures ∙ c.if-reaches_new.true)
    (c.push_reserved.ensures.items ∙ ap (λ ss. ss ++ (c.args.stamp, c.args.state) ∷ []) c.reserve.ensures.items)

pub returns-else-reaches_new-clause-holds : goal.returns-else-reaches_new-clause-holds
returns-else-reaches_new-clause-holds g c =
    held-unpushed _ _ _ _ c.self.inside.states.items _ c.args.stamp c.args.state c.last_cycle.result c.self.view_is c.self.invariant.some_interval c.self.invariant.new
    (c.last_cycle.ensures ∙ ap (last_cycle c.self.inside.dropped) (c.deref.ensures.value ∙ c.reserve.ensures.items)) (sym c.reaches_new.ensures ∙ c.if-reaches_new.false)
    c.reserve.ensures.items

pub returns-then-reaches_new-clause-in_time : goal.returns-then-reaches_new-clause-in_time
returns-then-reaches_new-clause-in_time g c =
    reached-pushed c.self.inside.dropped c.self.inside.states.items c.push_reserved.new.self.items c.args.stamp c.args.state
    (c.push_reserved.ensures.items ∙ ap (λ ss. ss ++ (c.args.stamp, c.args.state) ∷ []) c.reserve.ensures.items)
