use Rattle.dt_writes.proofs.WritesOfRecords.{in_order-writes_of}
use Rattle.dt_writes.proofs.laws.writes_stand_in_order.Goals as goal

pub returns : goal.returns
returns c = in_order-writes_of
