use Rattle.dt_sources.proofs.KnowingLaws.{notes}
use Rattle.dt_sources.proofs.laws.notes_are_added.Goals as goal

pub returns : goal.returns
returns c = notes
