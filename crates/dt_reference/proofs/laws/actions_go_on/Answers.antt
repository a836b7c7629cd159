use Rattle.std.proofs.Common.{arith}
use Rattle.dt_reference.proofs.GoingOn.{actions_from-snoc}
use Rattle.dt_reference.proofs.laws.actions_go_on.Goals as goal

-- src/laws.rt:8:1
pub returns : goal.returns
returns c records r = grind (arith, actions_from-snoc 0 records r)
