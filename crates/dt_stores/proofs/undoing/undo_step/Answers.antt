use Rattle.std.proofs.Common.{◌≡◌, length, subst, sym, arith}
use Rattle.std.proofs.lemmas.List.{with_items_is}
use Rattle.dt_stores.specs.Lines.{FindPlaces}
use Rattle.dt_stores.proofs.undoing.undo_step.Goals as goal

pub returns-in-Drain-clause-places : goal.returns-in-Drain-clause-places
returns-in-Drain-clause-places c =
    let long : length c.undo_drain.new.entries ≡ c.args.entries.now.len = omega arith in
    subst (FindPlaces c.undo_drain.new.lines) (sym (with_items_is c.args.entries.now c.undo_drain.new.entries long)) c.undo_drain.ensures.places
