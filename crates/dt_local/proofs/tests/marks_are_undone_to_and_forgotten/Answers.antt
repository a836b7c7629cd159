use Rattle.dt_local.proofs.tests.marks_are_undone_to_and_forgotten.Goals as goal

pub undo_to-requires : goal.undo_to-requires
undo_to-requires g c = c.noted-3.ensures.live c.mark-second.result c.mark-second.ensures.live
