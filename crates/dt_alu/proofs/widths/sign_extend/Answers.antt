use Rattle.std.proofs.Common.{◌≡◌, ◌+◌, ◌-◌, ◌*◌, ◌^◌, ◌≤◌, arith}
use Rattle.std.proofs.lemmas.Nat.{pow_pos}
use Rattle.dt_alu.proofs.ExtendLemmas.{some_bits, range_within_64, sign_bit_half, sign_extended_clear, sign_extended_set}
use Rattle.dt_alu.proofs.widths.sign_extend.Goals as goal

pub returns-then-low-sign : goal.returns-then-low-sign
returns-then-low-sign c = sign_extended_clear (8 * c.args.width) c.args.low (omega arith) c.ranges.low.fits

pub returns-else-low-sign : goal.returns-else-low-sign
returns-else-low-sign c =
    let wide : 2 ^ (8 * c.args.width) ≤ 2 ^ 64 = range_within_64 c.args.width c.requires.width
    in let half : 2 ^ (8 * c.args.width) ≡ 2 ^ (8 * c.args.width - 1) + 2 ^ (8 * c.args.width - 1) = sign_bit_half (8 * c.args.width) (some_bits c.args.width c.requires.width)
    in omega (arith, pow_pos (8 * c.args.width - 1), sign_extended_set (8 * c.args.width) c.args.low (omega arith) c.requires.fits wide)
