use Rattle.std.proofs.Common.{Option, ℕ, sym, subst, ap, ◌∙◌}
use Rattle.dt_snapshot.specs.Keeping.{AreNew, last_cycle, cycle_reached, dropped_below}
use Rattle.dt_snapshot.proofs.Held.{AreNew-from, held-dropped, reached-dropped}
use Rattle.dt_snapshot.proofs.keepers.Keeper.forget_below.Goals as goal

pub invariant_of-self : goal.invariant_of-self
invariant_of-self g c = record {
  some_interval = c.self.invariant.some_interval;
  new =
      subst (λ (o : Option ℕ). AreNew c.self.inside.interval o c.drop_early.new.states.items) (sym c.drop_early.ensures.dropped)
      (subst (AreNew c.self.inside.interval (dropped_below c.self.inside.interval c.args.cut c.self.inside.dropped c.self.inside.states.items)) (sym c.drop_early.ensures.states)
      (AreNew-from c.self.inside.interval c.args.cut c.self.inside.dropped c.self.inside.states.items c.self.invariant.new));
}

pub returns-clause-stays : goal.returns-clause-stays
returns-clause-stays g c =
    held-dropped _ _ _ _ c.self.inside.states.items c.args.cut _ _ c.self.view_is c.self.invariant.some_interval c.self.invariant.new c.drop_early.ensures.dropped c.drop_early.ensures.states

pub returns-clause-reached : goal.returns-clause-reached
returns-clause-reached g c =
    (λ i. last_cycle (c.drop_early.ensures.dropped i) (c.drop_early.ensures.states i))
    ∙ reached-dropped c.self.inside.interval c.args.cut c.self.inside.dropped c.self.inside.states.items
    ∙ ap cycle_reached c.self.view_is
