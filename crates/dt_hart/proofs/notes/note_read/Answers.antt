use Rattle.std.proofs.Common.{ap, ◌∙◌, Option}
use Rattle.dt_local.specs.LocalMemory.{LocalMemory, newest_of, greater}
use Rattle.dt_record.specs.declared.keys.Key.{Key}
use Rattle.dt_hart.specs.Following.{read_key}
use Rattle.dt_hart.proofs.ReadKeys.{noted_read}
use Rattle.dt_hart.proofs.MarksOn.{notes_marks}
use Rattle.dt_hart.proofs.notes.note_read.Goals as goal

pub returns-clause-noted : goal.returns-clause-noted
returns-clause-noted c = λ byte.
    c.note.ensures.noted byte
    ∙ ap (λ (o : Option Key). greater (newest_of c.reserve.new.self byte) o) (noted_read c.args.addr c.args.from.now c.mask_of-mask.result c.keys_of.result c.requires.on_one_line c.mask_of-mask.ensures c.keys_of.ensures byte)
    ∙ ap (λ (l : LocalMemory). greater (newest_of l byte) (read_key c.args.addr c.args.from.now byte)) c.in_ok-reserve.ensures.reserved

pub returns-clause-marks : goal.returns-clause-marks
returns-clause-marks c = notes_marks c.args.local.now c.reserve.new.self c.note.new.self _ c.in_ok-reserve.ensures.reserved c.note.ensures.marks
