use Rattle.std.proofs.Common.{◌≡◌, drop}
use Rattle.dt_core.specs.Machine.{told}
use Rattle.dt_core.proofs.tells.told.Given as goal

-- the harts that are left decide
abbrev pub invariant-loop-hart : goal.invariant-loop-hart
invariant-loop-hart g l = told l.by.workers l.by.worker l.by.is_ended l.hart (drop l.hart l.harts) l.all.items ≡ told l.by.workers l.by.worker l.by.is_ended 0 l.harts l.history
