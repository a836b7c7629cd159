use Rattle.dt_joined.proofs.JoinedHarts.{few_each}
use Rattle.dt_joined.proofs.laws.joined_harts_are_few.Goals as goal

pub returns : goal.returns
returns c = few_each
