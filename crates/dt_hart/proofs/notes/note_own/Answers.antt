use Rattle.std.proofs.Common.{ap, ◌∙◌, Option, Some, None}
use Rattle.std.specs.Prelude.{if◌then◌else◌}
use Rattle.dt_local.specs.LocalMemory.{LocalMemory, newest_of, is_noted, greater}
use Rattle.dt_record.specs.declared.keys.Key.{Key}
use Rattle.dt_hart.proofs.AccessLaws.{noted_same}
use Rattle.dt_hart.proofs.MarksOn.{notes_marks}
use Rattle.dt_hart.proofs.notes.note_own.Goals as goal

pub returns-clause-noted : goal.returns-clause-noted
returns-clause-noted c = λ byte.
    c.note.ensures.noted byte
    ∙ ap (λ (o : Option Key). greater (newest_of c.reserve.new.self byte) o) (noted_same c.args.line c.args.mask c.args.key byte)
    ∙ ap (λ (l : LocalMemory). greater (newest_of l byte) (if is_noted c.args.line c.args.mask byte then Some c.args.key else None)) c.in_ok-reserve.ensures.reserved

pub returns-clause-marks : goal.returns-clause-marks
returns-clause-marks c = notes_marks c.args.local.now c.reserve.new.self c.note.new.self _ c.in_ok-reserve.ensures.reserved c.note.ensures.marks
