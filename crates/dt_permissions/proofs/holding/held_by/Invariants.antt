use Rattle.std.proofs.Common.{◌≡◌, take}
use Rattle.dt_permissions.specs.Holding.{held_by}
use Rattle.dt_permissions.proofs.holding.held_by.Given as goal

-- the events from this place on are of other harts or lines
abbrev pub invariant-loop-place : goal.invariant-loop-place
invariant-loop-place l = held_by l.events l.hart l.line ≡ held_by (take l.place l.events) l.hart l.line
