use Rattle.dt_core.proofs.Watermark.{WritesUntilPassed-all}
use Rattle.dt_core.proofs.laws.writes_until_passed_are_all.Goals as goal

pub returns : goal.returns
returns c = WritesUntilPassed-all
