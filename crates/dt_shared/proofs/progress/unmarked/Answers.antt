use Rattle.dt_shared.proofs.Progresses.{follows_none}
use Rattle.dt_shared.proofs.progress.unmarked.Goals as goal

pub returns : goal.returns
returns c = follows_none
