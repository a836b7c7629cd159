use Rattle.dt_loads.proofs.AnAnswer.{an_answer}
use Rattle.dt_loads.proofs.laws.loads_have_an_answer.Goals as goal

pub returns : goal.returns
returns c = an_answer (record {
  is_least = c.least_choice_is_least.ensures;
  goes_on = c.least_choice_goes_on.ensures;
  exact = c.refusal_is_exact.ensures;
})
