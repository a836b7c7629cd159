use Rattle.dt_atomics.proofs.AnAnswer.{an_answer}
use Rattle.dt_atomics.proofs.laws.atomics_have_an_answer.Goals as goal

pub returns : goal.returns
returns c = an_answer c.known_keys_are_decided.ensures
