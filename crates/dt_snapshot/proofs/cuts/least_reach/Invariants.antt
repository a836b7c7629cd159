use Rattle.std.proofs.Common.{◌≡◌, drop}
use Rattle.dt_snapshot.specs.Cuts.{least_reach}
use Rattle.dt_snapshot.proofs.cuts.least_reach.Given as goal

-- the least cycle of the harts from this place on
abbrev pub invariant-loop-place : goal.invariant-loop-place
invariant-loop-place l = l.least ≡ least_reach (drop l.place l.reached)
