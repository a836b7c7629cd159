use Rattle.std.specs.Int.{w64}
use Rattle.dt_alu.proofs.AluLemmas.{arithmetic_shift_is}
use Rattle.dt_alu.proofs.doublewords.arithmetic_shift.Goals as goal

pub returns : goal.returns
returns c =
    arithmetic_shift_is w64 c.args.a c.args.b c.cast_unsigned.result c.cast_signed.result c.ranges.a.fits c.cast_signed.ensures c.cast_unsigned.ensures
