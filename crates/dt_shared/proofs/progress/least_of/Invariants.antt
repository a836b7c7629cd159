use Rattle.std.proofs.Common.{◌≡◌, List}
use Rattle.dt_record.specs.declared.writes.Note.{Note}
use Rattle.dt_record.specs.Marks.{least_mark}
use Rattle.dt_shared.specs.Replicas.{Follows}
use Rattle.dt_shared.proofs.progress.least_of.Given as goal

-- the least mark of the harts so far
abbrev pub invariant-loop-hart : goal.invariant-loop-hart
invariant-loop-hart l = (notes : List Note) → Follows l.progress notes → l.least ≡ least_mark l.hart notes
