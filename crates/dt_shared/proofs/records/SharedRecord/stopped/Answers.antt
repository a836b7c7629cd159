use Rattle.std.proofs.Common.{rules}
use Rattle.dt_shared.proofs.Steps.{asks_for}
use Rattle.dt_shared.proofs.records.SharedRecord.stopped.Goals as goal

pub load-requires : goal.load-requires
load-requires c = (search rules, search rules, asks_for _ _ _ _ _ _ c.pass.invariant.0)
