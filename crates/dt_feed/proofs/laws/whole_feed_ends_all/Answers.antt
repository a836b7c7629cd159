use Rattle.dt_feed.proofs.EndLaws.{Whole-all}
use Rattle.dt_feed.proofs.laws.whole_feed_ends_all.Goals as goal

pub returns : goal.returns
returns c = Whole-all
