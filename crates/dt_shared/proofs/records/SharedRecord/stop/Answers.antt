use Rattle.std.proofs.Common.{rules}
use Rattle.dt_shared.proofs.Steps.{stops_for}
use Rattle.dt_shared.proofs.records.SharedRecord.stop.Goals as goal

pub fetch_or-requires : goal.fetch_or-requires
fetch_or-requires c = (search rules, search rules, stops_for _ _ _ _ _ _ c.pass.invariant.0)
