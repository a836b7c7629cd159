use Rattle.dt_record.proofs.KeyLaws.{keys-are_in_order}
use Rattle.dt_record.proofs.laws.keys_are_in_order.Goals as goal

pub returns : goal.returns
returns c = keys-are_in_order
