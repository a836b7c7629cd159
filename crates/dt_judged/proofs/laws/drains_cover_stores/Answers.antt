use Rattle.dt_judged.proofs.Covered.{covered}
use Rattle.dt_judged.proofs.laws.drains_cover_stores.Goals as goal

pub returns : goal.returns
returns c = covered
