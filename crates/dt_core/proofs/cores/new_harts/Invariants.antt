use Rattle.std.proofs.Common.{◌≡◌}
use Rattle.dt_core.specs.Machine.{new_harts}
use Rattle.dt_core.proofs.cores.new_harts.Given as goal

-- the harts so far
abbrev pub invariant-loop-hart : goal.invariant-loop-hart
invariant-loop-hart g l = l.all.items ≡ new_harts g.J.Judgement.meaning l.hart
