use Rattle.dt_judge.proofs.OneEnd.{runs_have_one_end}
use Rattle.dt_judge.proofs.laws.runs_have_one_end.Goals as goal

pub returns : goal.returns
returns c = runs_have_one_end (record {
  one_finding = c.records_have_one_finding.ensures;
  decide = c.earlier_moments_decide.ensures;
  is_least = c.least_choice_is_least.ensures;
})
