use Rattle.dt_sources.proofs.Choices.{goes_on}
use Rattle.dt_sources.proofs.laws.least_choice_goes_on.Goals as goal

pub returns : goal.returns
returns c = goes_on
