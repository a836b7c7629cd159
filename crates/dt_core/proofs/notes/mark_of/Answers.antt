use Rattle.dt_core.proofs.Loops.{mark_of-step}
use Rattle.dt_core.proofs.notes.mark_of.Goals as goal

pub loop-note-preserved : goal.loop-note-preserved
loop-note-preserved c = mark_of-step _ _ _ _ _ _ c.loop-note-test.true c.loop-note.invariant c.mark_after-mark.ensures
