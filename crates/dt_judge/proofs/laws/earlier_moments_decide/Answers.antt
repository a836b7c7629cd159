use Rattle.dt_judge.proofs.EarlierMoments.{finds_at_others}
use Rattle.dt_judge.proofs.laws.earlier_moments_decide.Goals as goal

pub returns : goal.returns
returns c = finds_at_others
