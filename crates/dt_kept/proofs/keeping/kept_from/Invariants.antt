use Rattle.dt_kept.specs.States.{AreAllEventsFrom}
use Rattle.dt_kept.proofs.keeping.kept_from.Given as goal

-- those of the first harts are kept
abbrev pub invariant-loop-hart : goal.invariant-loop-hart
invariant-loop-hart l = AreAllEventsFrom l.hart l.cut l.records l.kept.items
