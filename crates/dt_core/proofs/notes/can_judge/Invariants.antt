use Rattle.std.proofs.Common.{◌≡◌}
use Rattle.dt_record.specs.Marks.{can_judge}
use Rattle.dt_core.proofs.notes.can_judge.Given as goal

-- the harts so far are past it
abbrev pub invariant-loop-hart : goal.invariant-loop-hart
invariant-loop-hart l = l.can ≡ can_judge l.hart l.notes l.stamp
