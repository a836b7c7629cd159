use Rattle.std.proofs.Common.{get_or, sym, subst}
use Rattle.dt_versions.specs.History.{History, CanAdd}
use Rattle.dt_writes.proofs.Filling.{any_write, CanAdd-place}
use Rattle.dt_writes.proofs.histories.moments_over.Goals as goal

pub add-requires : goal.add-requires
add-requires c =
    let writes = c.args.writes.now in
    let i = c.loop-w.w-index in
    subst (λ (h : History). CanAdd h (get_or writes i any_write)) (sym c.loop-w.invariant)
    (CanAdd-place c.args.image writes i any_write c.requires c.loop-w-test.true)
