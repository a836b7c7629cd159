use Rattle.dt_record.proofs.Chains.{records-are_counted, taken-were_left}
use Rattle.dt_record.proofs.laws.records_are_counted.Goals as goal

pub returns : goal.returns
returns c = record { counted = records-are_counted; left = taken-were_left }
