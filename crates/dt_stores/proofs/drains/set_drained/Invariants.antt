use Rattle.std.proofs.Common.{◌≡◌, drop}
use Rattle.dt_stores.specs.Taking.{drained_at}
use Rattle.dt_stores.proofs.drains.set_drained.Given as goal

-- the places that are left decide
abbrev pub invariant-loop-place : goal.invariant-loop-place
invariant-loop-place l = drained_at l.drain (drop l.place-index l.places) l.entries ≡ drained_at l.drain l.places l.initial.entries
