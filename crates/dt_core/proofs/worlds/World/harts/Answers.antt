use Rattle.std.proofs.Common.{arith}
use Rattle.dt_core.proofs.Reached.{IsReached-safe}
use Rattle.dt_core.proofs.worlds.World.harts.Goals as goal

pub harts-requires : goal.harts-requires
harts-requires g c = let safe = IsReached-safe _ _ g.met.J.Judgement.reads_no_later_writes c.self.invariant in let few = safe.few_harts in omega arith
