use Rattle.dt_snapshot.proofs.Multiples.{greatest}
use Rattle.dt_snapshot.proofs.laws.newer_cut_is_greatest.Goals as goal

pub returns : goal.returns
returns c = greatest
