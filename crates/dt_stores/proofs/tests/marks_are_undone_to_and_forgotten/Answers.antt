use Rattle.std.proofs.Common.{sym, subst, arith}
use Rattle.dt_stores.specs.Kept.{Kept}
use Rattle.dt_stores.specs.Marks.{IsLive}
use Rattle.dt_stores.proofs.GoingBack.{marks_stay}
use Rattle.dt_stores.proofs.tests.marks_are_undone_to_and_forgotten.Goals as goal

pub forget-requires : goal.forget-requires
forget-requires g c =
    let m = c.mark-m.result in
    let live = c.in_ok-commit-2.ensures.marks.live m (c.drain.ensures.live m c.mark-m.ensures.live) in
    c.drain-2.ensures.live m (subst (λ (k : Kept). IsLive k m) (sym c.undo_to.ensures) (marks_stay.undone_to c.commit-2.new.self m m live live (omega arith)).0)

pub undo_to-requires-2 : goal.undo_to-requires-2
undo_to-requires-2 g c =
    let m = c.mark-m.result in
    let live = c.in_ok-commit-2.ensures.marks.live m (c.drain.ensures.live m c.mark-m.ensures.live) in
    let again = c.drain-2.ensures.live m (subst (λ (k : Kept). IsLive k m) (sym c.undo_to.ensures) (marks_stay.undone_to c.commit-2.new.self m m live live (omega arith)).0) in
    subst (λ (k : Kept). IsLive k m) (sym c.forget.ensures) (marks_stay.forgotten_before c.drain-2.new.stores m m again again (omega arith)).0
