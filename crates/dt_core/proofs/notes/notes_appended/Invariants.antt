use Rattle.std.proofs.Common.{◌≡◌, ◌++◌, drop}
use Rattle.dt_core.specs.Notes.{notes_appended}
use Rattle.dt_core.proofs.notes.notes_appended.Given as goal

-- with the notes of the entries that are left, they are all
abbrev pub invariant-loop-entry : goal.invariant-loop-entry
invariant-loop-entry l = l.notes.items ++ notes_appended (drop l.entry-index l.entries) ≡ notes_appended l.entries
