use Rattle.std.proofs.Common.{sym, subst, arith}
use Rattle.dt_hart.specs.HartView.{HartView}
use Rattle.dt_hart.specs.Marks.{IsLive, IsSound}
use Rattle.dt_hart.proofs.tests.a_fence_counts_again_after_an_undo.Goals as goal

pub undo_to-requires-clause-live : goal.undo_to-requires-clause-live
undo_to-requires-clause-live g c = (c.marks_go_on.ensures.kept c.mark-m.new.self c.take_fence-2.new.hart c.mark-m.result c.in_ok-take_fence-2.ensures c.mark-m.ensures.live).0

pub undo_to-requires-clause-sound : goal.undo_to-requires-clause-sound
undo_to-requires-clause-sound g c =
    c.marks_go_on.ensures.sound _ _ (c.marks_go_on.ensures.kept c.mark-m.new.self c.take_fence-2.new.hart c.mark-m.result c.in_ok-take_fence-2.ensures c.mark-m.ensures.live).1
    (subst IsSound (sym c.mark-m.ensures.here) c.mark-m.ensures.sound)

pub forget-requires : goal.forget-requires
forget-requires g c =
    let m = c.mark-m.result in
    let live = (c.marks_go_on.ensures.kept c.mark-m.new.self c.take_fence-2.new.hart m c.in_ok-take_fence-2.ensures c.mark-m.ensures.live).0 in
    subst (λ (h : HartView). IsLive h m) (sym c.undo_to.ensures)
    (c.marks_go_on.ensures.undone_to c.take_fence-2.new.hart m m live live (record { stores = omega arith; local = omega arith; windows = omega arith })).0
