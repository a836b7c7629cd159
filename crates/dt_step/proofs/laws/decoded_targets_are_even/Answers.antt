use Rattle.dt_step.proofs.EvenLemmas.{decoded_even}
use Rattle.dt_step.proofs.laws.decoded_targets_are_even.Goals as goal

pub returns : goal.returns
returns c = decoded_even
