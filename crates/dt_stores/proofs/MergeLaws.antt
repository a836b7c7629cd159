use Rattle.std.proofs.Common.{◌≡◌, ℕ, ◌+◌, ◌-◌, ◌*◌, ◌^◌, ◌%◌, ◌≤◌, ◌<◌, List, ◌++◌, length, take, drop, ap, arith, ◌∙◌}
use Rattle.std.specs.Int.{to_le_bytes, w64}
use Rattle.std.proofs.Math.Pow.{pow_mono}
use Rattle.std.proofs.Math.Nat.{mod-eq_of_lt}
use Rattle.std.proofs.lemmas.Nat.{pow_pos}
use Rattle.std.proofs.lemmas.List.{length-take-le}
use Rattle.dt_record.proofs.Placed.{ones-fit}
use Rattle.dt_record.specs.declared.accesses.OwnStore.{OwnStore}
use Rattle.dt_record.specs.Spelling.{double}
use Rattle.dt_record.specs.Writes.{width_mask}
use Rattle.dt_stores.specs.Taking.{put_over}

-- so shifting it loses nothing
pub shifted_mask : (place width : ℕ) → width ≤ 8 → place + width ≤ 64
    → (1 * 2 ^ width % 2 ^ 64 - 1) * 2 ^ place % 2 ^ 64 ≡ width_mask place width
shifted_mask place width narrow within =
    let one : 1 * 2 ^ width ≡ 2 ^ width = omega arith in
    let at_most : 2 ^ width ≤ 2 ^ 8 = pow_mono {i = width} {j = 8} narrow in
    let small : 2 ^ width < 2 ^ 64 = omega arith in
    let some : 0 < 2 ^ width = pow_pos width in
    let few : 2 ^ width - 1 < 2 ^ width = omega arith in
    let whole : 1 * 2 ^ width % 2 ^ 64 ≡ 2 ^ width = ap (λ n. n % 2 ^ 64) one ∙ mod-eq_of_lt small in
    ap (λ n. (n - 1) * 2 ^ place % 2 ^ 64) whole ∙ mod-eq_of_lt (ones-fit (2 ^ width - 1) width place few within)

-- the low bytes of a value at a store's place
pub put_is : (old low : List ℕ) (place width value : ℕ) (s : OwnStore) → low ≡ to_le_bytes w64 value → value ≡ s.value → place ≡ s.addr % 64 → width ≡ s.width
    → width ≤ 8 → take place old ++ take width low ++ drop (place + length (take width low)) old ≡ put_over old s
unfolding double
put_is old low place width value s low_is value_is place_is width_is narrow =
    let eight : length low ≡ 8 = ap length low_is in
    let long : length (take width low) ≡ width = length-take-le width low (omega arith) in
    ap (λ n. take place old ++ take width low ++ drop (place + n) old) long
    ∙ ap (λ l. take place old ++ take width l ++ drop (place + width) old) low_is
    ∙ ap (λ v. take place old ++ take width (to_le_bytes w64 v) ++ drop (place + width) old) value_is
    ∙ ap (λ p. take p old ++ take width (to_le_bytes w64 s.value) ++ drop (p + width) old) place_is
    ∙ ap (λ w. take (s.addr % 64) old ++ take w (to_le_bytes w64 s.value) ++ drop (s.addr % 64 + w) old) width_is
