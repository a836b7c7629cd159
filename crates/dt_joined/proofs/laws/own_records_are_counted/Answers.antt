use Rattle.std.proofs.Common.{ap}
use Rattle.dt_tallies.specs.Counting.{counts_of}
use Rattle.dt_joined.proofs.Joining.{own_again}
use Rattle.dt_joined.proofs.laws.own_records_are_counted.Goals as goal

pub returns : goal.returns
returns c = λ limit file hart. ap (counts_of limit) (own_again hart file)
