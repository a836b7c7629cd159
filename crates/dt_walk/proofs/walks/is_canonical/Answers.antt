-- the greatest number of 64 bits, shifted, has a one at each place that is left
use Rattle.std.proofs.Common.{◌≡◌, ℕ, ◌+◌, ◌-◌, ◌*◌, ◌/◌, ◌^◌, ◌≤◌, ap, ◌∙◌, arith}
use Rattle.std.proofs.lemmas.Nat.Bits.{ones_shr}
use Rattle.dt_walk.proofs.walks.is_canonical.Goals as goal

ones_above : (levels : ℕ) → levels ≤ 4 → 18446744073709551615 / 2 ^ (9 * levels + 11) ≡ 2 ^ (53 - 9 * levels) - 1
ones_above levels h =
    let width : 64 - (9 * levels + 11) ≡ 53 - 9 * levels = omega arith in
    ones_shr 64 (9 * levels + 11) (omega arith) ∙ ap (λ k. 2 ^ k - 1) width

pub returns-else-high-eq0 : goal.returns-else-high-eq0
returns-else-high-eq0 c = let ones = ones_above c.args.levels c.requires.high in grind (arith, ones)
