use Rattle.std.proofs.Common.{arith}
use Rattle.std.specs.Int.{w32}
use Rattle.dt_alu.proofs.AluLemmas.{signed_quotient_is}
use Rattle.dt_alu.proofs.words.signed_quotient.Goals as goal

pub returns-else-b-eq0 : goal.returns-else-b-eq0
returns-else-b-eq0 c =
    signed_quotient_is w32 c.args.a c.args.b c.cast_unsigned.result c.cast_signed.result c.cast_signed-else-b-eq0.result c.wrapping_div.result
    c.ranges.a.fits c.ranges.b.fits (omega (arith, c.if-b-eq0.false)) c.cast_signed.ensures c.cast_signed-else-b-eq0.ensures c.wrapping_div.ensures c.cast_unsigned.ensures
