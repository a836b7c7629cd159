use Rattle.dt_record.proofs.Chains.{answers-go_on, taken-go_on}
use Rattle.dt_record.proofs.laws.answers_go_on.Goals as goal

pub returns : goal.returns
returns c = record { told = answers-go_on; taken = taken-go_on }
