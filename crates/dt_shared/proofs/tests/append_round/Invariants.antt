use Rattle.std.proofs.Common.{◌≡◌, List}
use mathlib.Core.List.{IsPrefix}
use Rattle.dt_record.specs.declared.writes.Note.{Note}
use Rattle.dt_shared.specs.Entries.{notes_in}
use Rattle.dt_shared.specs.Records.{identity}
use Rattle.dt_shared.proofs.tests.append_round.Given as goal

abbrev pub invariant-loop-n : goal.invariant-loop-n
invariant-loop-n g l = (l.pass.of ≡ identity l.shared) × ((copy : List Note) → IsPrefix copy (notes_in l.initial.pass.seen) → IsPrefix copy (notes_in l.pass.seen))
