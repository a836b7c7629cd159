use Rattle.dt_sources.proofs.Choices.{refusal_exact}
use Rattle.dt_sources.proofs.laws.refusal_is_exact.Goals as goal

pub returns : goal.returns
returns c = refusal_exact c.sources_rise.ensures
