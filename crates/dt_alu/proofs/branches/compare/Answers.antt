use Rattle.std.proofs.Common.{◌≡◌}
use Rattle.std.specs.Int.{w64}
use Rattle.dt_alu.specs.Words.{signed_value}
use Rattle.dt_alu.specs.Compare.{compare_value}
use Rattle.dt_alu.proofs.WordLemmas.{reading, signed_value_read}
use Rattle.dt_alu.proofs.branches.compare.Goals as goal

pub returns-in-Lt : goal.returns-in-Lt
unfolding compare_value
returns-in-Lt c =
    let left : reading w64 c.cast_signed.result ≡ signed_value 64 c.args.a = signed_value_read w64 c.args.a c.cast_signed.result c.ranges.a.fits c.cast_signed.ensures
    in let right : reading w64 c.cast_signed-in-Lt.result ≡ signed_value 64 c.args.b = signed_value_read w64 c.args.b c.cast_signed-in-Lt.result c.ranges.b.fits c.cast_signed-in-Lt.ensures
    in rw (c.in-Lt.is, left, right)

pub returns-in-Ge : goal.returns-in-Ge
unfolding compare_value
returns-in-Ge c =
    let left : reading w64 c.cast_signed-in-Ge.result ≡ signed_value 64 c.args.a = signed_value_read w64 c.args.a c.cast_signed-in-Ge.result c.ranges.a.fits c.cast_signed-in-Ge.ensures
    in let right : reading w64 c.cast_signed-in-Ge-2.result ≡ signed_value 64 c.args.b = signed_value_read w64 c.args.b c.cast_signed-in-Ge-2.result c.ranges.b.fits c.cast_signed-in-Ge-2.ensures
    in rw (c.in-Ge.is, left, right)
