use Rattle.std.proofs.Common.{arith}
use Rattle.std.proofs.lemmas.Bool.Decides.{nat_tests}
use lib.Pointwise.{pointwise_decides}
use Rattle.dt_record.proofs.states.are_same_bytes.Goals as goal

pub returns : goal.returns
returns c = rw c.eq.ensures (pointwise_decides (λ a b. (λ h. grind (arith, nat_tests), λ h. grind (arith, nat_tests))) c.args.bytes.now c.args.others.now)
