use Rattle.std.proofs.Common.{ℕ, ◌≡◌, ◌+◌, ◌*◌, ◌^◌, ◌<◌, ◌≤◌, List, ap, ◌∙◌, arith, add-one}
use Rattle.std.proofs.Math.Pow.{pow_mono}
use Rattle.std.proofs.lemmas.Nat.{pow-add}
use Rattle.dt_record.specs.declared.writes.Write.{Write}
use Rattle.dt_record.specs.declared.accesses.LoadAsk.{LoadAsk}
use Rattle.dt_record.specs.Actions.{Action}
use Rattle.dt_record.specs.LoadSources.{found_byte, found_value}

-- one more byte in front
pub found_more : (image : List ℕ) (writes : List Write) (actions : List Action) (ask : LoadAsk) (k i found byte addr after : ℕ)
    → found ≡ found_value image writes actions ask k i after → byte ≡ found_byte image writes actions ask k addr → after ≡ addr + 1
    → found * 256 + byte ≡ found_value image writes actions ask k (i + 1) addr
found_more image writes actions ask k i found byte addr after found_is byte_is next =
    let back : found ≡ found_value image writes actions ask k i (addr + 1) = found_is ∙ ap (found_value image writes actions ask k i) next in
    rw add-one (omega (arith, back, byte_is))

-- so many bytes fit
pub one_more_fits : (found byte i : ℕ) → found < 2 ^ (8 * i) → byte < 256 → found * 256 + byte < 2 ^ (8 * (i + 1))
one_more_fits found byte i fits byte_fits =
    let more : 2 ^ (8 * (i + 1)) ≡ 2 ^ (8 * i) * 256 = ap (λ n. 2 ^ n) (omega arith) ∙ pow-add 2 (8 * i) 8 in
    omega (arith, more)

pub seven_fit : (found i : ℕ) → found < 2 ^ (8 * i) → i < 8 → found < 2 ^ 56
seven_fit found i fits few = let most : 2 ^ (8 * i) ≤ 2 ^ 56 = pow_mono {i = 8 * i} {j = 56} (omega arith) in omega arith
