use Rattle.dt_core.proofs.Watermark.{WritesUntilJudged-all}
use Rattle.dt_core.proofs.laws.writes_until_judged_are_all.Goals as goal

pub returns : goal.returns
returns c = WritesUntilJudged-all
