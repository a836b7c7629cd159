use Rattle.std.proofs.Common.{◌≡◌, ◌++◌, drop}
use Rattle.dt_core.specs.Notes.{entries_by}
use Rattle.dt_core.proofs.tells.add_entries.Given as goal

-- with the notes that are left, they are all
abbrev pub invariant-loop-note : goal.invariant-loop-note
invariant-loop-note l = l.history.items ++ entries_by l.worker (drop l.note-index l.notes) ≡ l.initial.history.items ++ entries_by l.worker l.notes
