use Rattle.std.proofs.Common.{ℕ, ◌≡◌, ◌+◌, ◌*◌, ◌^◌, ◌<◌, ◌≤◌, List, ap, ◌∙◌, arith, add-one}
use Rattle.std.proofs.Math.Pow.{pow_mono}
use Rattle.std.proofs.lemmas.Nat.{pow-add}
use Rattle.dt_record.specs.declared.writes.Write.{Write}
use Rattle.dt_record.specs.Memory.{memory_at}
use Rattle.dt_atomics.specs.Values.{number_at}

-- The number that memory holds, from its last byte on.

-- one more byte in front
pub number_more : (image : List ℕ) (writes : List Write) (k i number byte addr after : ℕ)
    → number ≡ number_at image writes k i after → byte ≡ memory_at image writes k addr → after ≡ addr + 1
    → number * 256 + byte ≡ number_at image writes k (i + 1) addr
number_more image writes k i number byte addr after number_is byte_is next =
    let back : number ≡ number_at image writes k i (addr + 1) = number_is ∙ ap (number_at image writes k i) next in
    rw add-one (omega (arith, back, byte_is))

-- so many bytes fit
pub one_more_fits : (number byte i : ℕ) → number < 2 ^ (8 * i) → byte < 256 → number * 256 + byte < 2 ^ (8 * (i + 1))
one_more_fits number byte i fits byte_fits =
    let more : 2 ^ (8 * (i + 1)) ≡ 2 ^ (8 * i) * 256 = ap (λ n. 2 ^ n) (omega arith) ∙ pow-add 2 (8 * i) 8 in
    omega (arith, more)

pub seven_fit : (number i : ℕ) → number < 2 ^ (8 * i) → i < 8 → number < 2 ^ 56
seven_fit number i fits few = let most : 2 ^ (8 * i) ≤ 2 ^ 56 = pow_mono {i = 8 * i} {j = 56} (omega arith) in omega arith
