use Rattle.std.proofs.Common.{◌≡◌, ◌++◌, drop}
use Rattle.dt_core.specs.Notes.{announced}
use Rattle.dt_core.proofs.notes.announced.Given as goal

-- with the writes of the notes that are left, they are all
abbrev pub invariant-loop-note : goal.invariant-loop-note
invariant-loop-note l = l.writes.items ++ announced (drop l.note-index l.notes) ≡ announced l.notes
