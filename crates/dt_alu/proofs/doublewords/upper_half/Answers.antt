use Rattle.dt_alu.proofs.AluLemmas.{upper_half_is}
use Rattle.dt_alu.proofs.doublewords.upper_half.Goals as goal

pub returns : goal.returns
returns c = upper_half_is c.cast_unsigned.result c.args.whole c.ranges.whole c.cast_unsigned.ensures
