use Rattle.dt_sources.proofs.Choices.{least_is_least}
use Rattle.dt_sources.proofs.laws.least_choice_is_least.Goals as goal

pub returns : goal.returns
returns c = least_is_least c.sources_rise.ensures
