use Rattle.dt_judge.proofs.AnEnd.{runs_have_an_end}
use Rattle.dt_judge.proofs.laws.runs_have_an_end.Goals as goal

pub returns : goal.returns
returns c = runs_have_an_end (record {
  findings = record {
    loads = c.loads_have_an_answer.ensures;
    atomics = c.atomics_have_an_answer.ensures;
    decoded = c.meaning_is_well_formed.ensures;
    is_least = c.least_choice_is_least.ensures;
    goes_on = c.least_choice_goes_on.ensures;
  };
  decide = c.earlier_moments_decide.ensures;
  actions = c.actions_go_on.ensures;
})
