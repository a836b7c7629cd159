use Rattle.std.proofs.Common.{◌≡◌, ◌*◌}
use Rattle.std.specs.Int.{w64}
use Rattle.dt_alu.specs.Words.{signed_value}
use Rattle.dt_alu.proofs.WordLemmas.{reading}
use Rattle.dt_alu.proofs.ExtendLemmas.{extended_read}
use Rattle.dt_alu.proofs.atomics.is_less.Goals as goal

pub returns : goal.returns
returns c =
    let left : reading w64 c.cast_signed.result ≡ signed_value (8 * c.args.width) c.args.left = extended_read c.args.width c.args.left c.extend.result c.cast_signed.result
    c.requires.width c.requires.left c.extend.type_inv c.extend.ensures.value c.cast_signed.ensures
    in let right : reading w64 c.cast_signed-2.result ≡ signed_value (8 * c.args.width) c.args.right = extended_read c.args.width c.args.right c.extend-2.result c.cast_signed-2.result
    c.requires.width c.requires.right c.extend-2.type_inv c.extend-2.ensures.value c.cast_signed-2.ensures
    in rw (left, right)
