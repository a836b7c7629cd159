use Rattle.dt_writes.proofs.KeyOrder.{stable_sort_is_one}
use Rattle.dt_writes.proofs.laws.stable_sorts_are_one.Goals as goal

pub returns : goal.returns
returns g c = stable_sort_is_one
