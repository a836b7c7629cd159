use Rattle.dt_snapshot.proofs.Multiples.{new-cuts}
use Rattle.dt_snapshot.proofs.laws.new_cuts_are_between.Goals as goal

pub returns : goal.returns
returns c = new-cuts
