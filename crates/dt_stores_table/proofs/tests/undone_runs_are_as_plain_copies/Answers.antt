use Rattle.std.proofs.Common.{sym, subst, arith}
use Rattle.dt_stores.specs.Kept.{Kept}
use Rattle.dt_stores.specs.Marks.{IsLive}
use Rattle.dt_stores_table.proofs.tests.undone_runs_are_as_plain_copies.Goals as goal

pub forget-requires : goal.forget-requires
forget-requires g c =
    let m = c.mark-m.result in
    let live = c.go_on-in-loop-case.ensures.marks.live m c.mark-m.ensures.live in
    subst (λ (k : Kept). IsLive k m) (sym c.undo_to.ensures) (c.marks_stay_live.ensures.undone_to c.go_on-in-loop-case.new.stores m m live live (omega arith)).0
