use Rattle.dt_versions.proofs.RisingSources.{rank_below-source_at}
use Rattle.dt_versions.proofs.laws.sources_rise.Goals as goal

pub returns : goal.returns
returns c = rank_below-source_at
