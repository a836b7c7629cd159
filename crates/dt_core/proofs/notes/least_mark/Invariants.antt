use Rattle.std.proofs.Common.{◌≡◌}
use Rattle.dt_record.specs.Marks.{least_mark}
use Rattle.dt_core.proofs.notes.least_mark.Given as goal

-- the least mark of the harts so far
abbrev pub invariant-loop-hart : goal.invariant-loop-hart
invariant-loop-hart l = l.least ≡ least_mark l.hart l.notes
