use Rattle.std.specs.Int.{w32}
use Rattle.dt_alu.proofs.AluLemmas.{arithmetic_shift_is}
use Rattle.dt_alu.proofs.words.arithmetic_shift.Goals as goal

pub returns : goal.returns
returns c =
    arithmetic_shift_is w32 c.args.a c.args.b c.cast_unsigned.result c.cast_signed.result c.ranges.a.fits c.cast_signed.ensures c.cast_unsigned.ensures
