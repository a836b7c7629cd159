use Rattle.std.proofs.Common.{arith, w64}
use Rattle.dt_alu.proofs.WordLemmas.{signed_value_read}
use Rattle.dt_alu.proofs.doublewords.signed_less.Goals as goal

pub returns : goal.returns
returns c =
    grind (arith, signed_value_read w64 c.args.a c.cast_signed.result c.ranges.a.fits c.cast_signed.ensures, signed_value_read w64 c.args.b c.cast_signed-2.result c.ranges.b.fits c.cast_signed-2.ensures)
