use Rattle.std.proofs.Common.{◌-◌, ◌^◌, ◌∙◌, pos, arith}
use Rattle.std.specs.Int.{w64}
use Rattle.std.proofs.Math.Dec.{lit<}
use Rattle.dt_alu.specs.Words.{signed_value}
use Rattle.dt_alu.proofs.WordLemmas.{signed_value_read}
use Rattle.dt_alu.proofs.AluLemmas.{upper_half_of_product, signed_value_most}
use Rattle.dt_alu.proofs.doublewords.upper_mixed.Goals as goal

pub returns : goal.returns
returns c =
    upper_half_of_product c.upper_half.result (2 ^ 63) (2 ^ 64 - 1) c.from.result c.from-2.result (signed_value 64 c.args.a) (pos c.args.b)
    (c.from.ensures ∙ signed_value_read w64 c.args.a c.cast_signed.result c.ranges.a.fits c.cast_signed.ensures)
    c.from-2.ensures (signed_value_most c.args.a c.ranges.a.fits) (omega (arith, c.ranges.b.fits)) (lit< tt) (lit< tt) (lit< tt) c.upper_half.ensures
