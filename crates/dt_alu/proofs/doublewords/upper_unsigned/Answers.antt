use Rattle.std.proofs.Common.{◌*◌, ◌/◌, ◌^◌, ◌∙◌, ap}
use Rattle.dt_alu.proofs.AluLemmas.{upper_half_of_unsigned}
use Rattle.dt_alu.proofs.doublewords.upper_unsigned.Goals as goal

pub returns : goal.returns
returns c =
    ap (λ x. x * c.from-2.result / 2 ^ 64) c.from.ensures ∙ ap (λ y. c.args.a * y / 2 ^ 64) c.from-2.ensures
    ∙ upper_half_of_unsigned c.args.a c.args.b c.ranges.a.fits c.ranges.b.fits
