use Rattle.dt_judged.proofs.Onward.{onward_laws}
use Rattle.dt_judged.proofs.laws.judged_goes_on.Goals as goal

pub returns : goal.returns
returns c = onward_laws c.stores_go_on.ensures c.drains_cover_stores.ensures
