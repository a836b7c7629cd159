use Rattle.dt_feed.proofs.EndLaws.{Popped-all}
use Rattle.dt_feed.proofs.laws.popped_end_means_all.Goals as goal

pub returns : goal.returns
returns c = Popped-all
