use Rattle.dt_worker.proofs.Steadiness.{looks-stayed, looks-settled, looks-continues}
use Rattle.dt_worker.proofs.looking.look_up.Goals as goal

pub returns-in_err-see-clause-further : goal.returns-in_err-see-clause-further
returns-in_err-see-clause-further g c =
    let looked = c.in_ok-look.ensures in
    looks-stayed c.all_writes_are_promised.ensures _ _ _ _ _ _ looked.same looked.seen looked.replica c.requires.begins c.requires.within
    _ c.notes.ensures _ c.least_mark-least.ensures c.see.ensures.image c.see.ensures.within c.in_err-see.ensures.stays_true

pub returns-clause-further : goal.returns-clause-further
returns-clause-further g c =
    let looked = c.in_ok-look.ensures in
    looks-settled c.all_writes_are_promised.ensures _ _ _ _ _ _ looked.same looked.seen looked.replica c.requires.begins c.requires.within
    _ c.notes.ensures _ c.least_mark-least.ensures c.see.ensures.image c.see.ensures.within c.in_ok-see.ensures.settles c.in_ok-see.ensures.seen

pub returns-clause-settled : goal.returns-clause-settled
returns-clause-settled g c =
    let looked = c.in_ok-look.ensures in
    looks-continues c.all_writes_are_promised.ensures _ _ _ _ _ _ looked.same looked.seen looked.replica c.requires.begins c.requires.within
    _ c.notes.ensures _ c.least_mark-least.ensures c.see.ensures.image c.see.ensures.within c.in_ok-see.ensures.settles
