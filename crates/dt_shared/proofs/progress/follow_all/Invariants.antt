use Rattle.std.proofs.Common.{◌≡◌, List, ◌++◌, length, take}
use Rattle.dt_record.specs.declared.writes.Note.{Note}
use Rattle.dt_shared.specs.Entries.{notes_in}
use Rattle.dt_shared.specs.Replicas.{Follows}
use Rattle.dt_shared.proofs.progress.follow_all.Given as goal

-- the notes so far were followed
abbrev pub invariant-loop-entry : goal.invariant-loop-entry
invariant-loop-entry l = (length l.progress ≡ 256) × ((notes : List Note) → Follows l.initial.progress notes → Follows l.progress (notes ++ notes_in (take l.entry-index l.entries)))
