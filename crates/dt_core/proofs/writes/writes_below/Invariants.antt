use Rattle.std.proofs.Common.{◌≡◌, ◌++◌, drop}
use Rattle.dt_core.specs.Notes.{writes_below}
use Rattle.dt_core.proofs.writes.writes_below.Given as goal

-- with those that are left, they are all
abbrev pub invariant-loop-w : goal.invariant-loop-w
invariant-loop-w l = l.below.items ++ writes_below l.stamp (drop l.w-index l.writes) ≡ writes_below l.stamp l.writes
