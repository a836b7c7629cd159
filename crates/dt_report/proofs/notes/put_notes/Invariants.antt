use Rattle.std.proofs.Common.{◌≡◌, ◌++◌, take}
use Rattle.std.specs.List.{flat_map}
use Rattle.dt_report.specs.Report.{note_line}
use Rattle.dt_report.proofs.notes.put_notes.Given as goal

-- the lines so far are written
abbrev pub invariant-loop-noted : goal.invariant-loop-noted
invariant-loop-noted l = l.out.items ≡ l.initial.out.items ++ flat_map note_line (take l.noted-index l.notes)
