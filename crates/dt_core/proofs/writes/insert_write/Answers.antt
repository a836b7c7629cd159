use Rattle.dt_core.proofs.Loops.{insert_write-step}
use Rattle.dt_core.proofs.writes.insert_write.Goals as goal

pub returns : goal.returns
returns c = insert_write-step c.args.w c.args.writes.now.items c.deref.result.now _ _ c.deref.ensures.value c.place_of-place.ensures.place c.in_ok-insert.ensures.items
