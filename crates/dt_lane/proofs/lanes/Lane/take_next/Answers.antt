use Rattle.std.proofs.Common.{refl, sym, ap, ◌∙◌}
use Rattle.dt_lane.specs.Lanes.{judged_of}
use Rattle.dt_lane.proofs.Taking.{popped_into}
use Rattle.dt_lane.specs.contracts.lanes.Lane as lane
use Rattle.dt_lane.proofs.lanes.Lane.take_next.Goals as goal

pub invariant_of-self-in-Item : goal.invariant_of-self-in-Item
invariant_of-self-in-Item g c =
    (popped_into c.usable_front_grows.ensures (lane.the_view c.self.inside) (lane.the_view (record { queue = c.pop.new.self; intake = c.take.new.self; run = c.self.inside.run; count = c.self.inside.count }))
    c.reserve.new.self c.in-Item.event c.self.invariant (sym c.has_ended.ensures ∙ c.if-has_ended.false) c.in_ok-reserve.ensures.same c.in-Item.ensures.taken c.take.ensures refl).0

pub returns-in-Item-clause-judged : goal.returns-in-Item-clause-judged
returns-in-Item-clause-judged g c =
    ap judged_of c.tell_took.ensures
    ∙ (popped_into c.usable_front_grows.ensures (lane.the_view c.self.inside) (lane.the_view (record { queue = c.pop.new.self; intake = c.take.new.self; run = c.self.inside.run; count = c.self.inside.count }))
    c.reserve.new.self c.in-Item.event c.self.invariant (sym c.has_ended.ensures ∙ c.if-has_ended.false) c.in_ok-reserve.ensures.same c.in-Item.ensures.taken c.take.ensures refl).1
    ∙ ap judged_of c.self.view_is
