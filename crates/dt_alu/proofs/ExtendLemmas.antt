use Rattle.std.proofs.Common.{◌≡◌, ℕ, suc, ◌+◌, ◌-◌, ◌*◌, ◌%◌, ◌^◌, ◌<◌, ◌≤◌, ap, ◌∙◌, arith, true, ℤ, pos, ◌-ℤ◌, inl, inr}
use Rattle.std.specs.Int.{w32, w64, cast_signed}
use Rattle.std.proofs.lemmas.Bool.Decides.{nat_tests}
use Rattle.std.proofs.Math.Dec.{lit<}
use Rattle.std.proofs.Math.Facts.{sfits_widen}
use Rattle.std.proofs.Math.Nat.{mod-eq_of_lt, pow-suc, pow-le-pow_right}
use Rattle.dt_alu.specs.Words.{signed_value, word_of}
use Rattle.dt_alu.specs.Extend.{IsAccessWidth, low_bytes_of, sign_extended, extend_value}
use Rattle.dt_alu.specs.Amo.{IsAmoWidth}
use Rattle.dt_alu.proofs.WordLemmas.{reading, signed_value_read, signed_value_fits, word_of-difference, word_of-signed_value, signed_value-word_of}

-- ---- the bits of an access

pub some_bits : (width : ℕ) → IsAccessWidth width → 0 < 8 * width
some_bits width h = omega (arith, h)

pub range_within_64 : (width : ℕ) → IsAccessWidth width → 2 ^ (8 * width) ≤ 2 ^ 64
range_within_64 width h = let few : 8 * width ≤ 64 = omega (arith, h) in pow-le-pow_right (lit< tt) few

-- the sign bit is half of the range
pub sign_bit_half : (k : ℕ) → 0 < k → 2 ^ k ≡ 2 ^ (k - 1) + 2 ^ (k - 1)
sign_bit_half k h =
    let e : k ≡ suc (k - 1) = omega arith
    in let p : 2 ^ suc (k - 1) ≡ 2 ^ (k - 1) * 2 = pow-suc 2 (k - 1)
    in omega (arith, p, ap (λ n. 2 ^ n) e)

-- ---- sign extension

-- a word whose sign bit is clear is its own sign extension
pub sign_extended_clear : (k n : ℕ) → n < 2 ^ (k - 1) → n < 2 ^ 64 → n ≡ sign_extended k n
unfolding word_of signed_value
sign_extended_clear k n clear fits = grind (arith, nat_tests)

-- a word whose sign bit is set gets every bit above it
pub sign_extended_set : (k n : ℕ) → 2 ^ (k - 1) ≤ n → n < 2 ^ k → 2 ^ k ≤ 2 ^ 64
    → n + (2 ^ 64 - 2 ^ k) ≡ sign_extended k n
unfolding signed_value
sign_extended_set k n set fits wide =
    let d : word_of 64 (pos n -ℤ pos (2 ^ k)) ≡ (n + (2 ^ 64 - 2 ^ k)) % 2 ^ 64 = word_of-difference 64 n (2 ^ k) wide
    in let m : (n + (2 ^ 64 - 2 ^ k)) % 2 ^ 64 ≡ n + (2 ^ 64 - 2 ^ k) = mod-eq_of_lt (omega arith)
    in grind (arith, nat_tests, d, m)

-- all 8 bytes are the word itself
pub sign_extended_whole : (width raw : ℕ) → width ≡ 8 → raw < 2 ^ 64
    → sign_extended (8 * width) (low_bytes_of width raw) ≡ raw
sign_extended_whole width raw e h =
    rw e (let m : raw % 2 ^ 64 ≡ raw = mod-eq_of_lt h in rw m (word_of-signed_value w64 raw h))

pub ruleset whole_words = (sign_extended_whole)

-- sign extension keeps the signed value
pub signed_value-sign_extended : (width n : ℕ) → IsAmoWidth width → n < 2 ^ (8 * width)
    → signed_value 64 (sign_extended (8 * width) n) ≡ signed_value (8 * width) n
signed_value-sign_extended width n (inl e) h =
    let fits : n < 2 ^ 32 = rw e at h
    in rw e (signed_value-word_of w64 (signed_value 32 n) (sfits_widen tt (signed_value_fits w32 n fits)))
signed_value-sign_extended width n (inr e) h =
    let fits : n < 2 ^ 64 = rw e at h
    in rw e (signed_value-word_of w64 (signed_value 64 n) (signed_value_fits w64 n fits))

-- what a signed comparison of an extended word reads
pub extended_read : (width n r : ℕ) (z : ℤ) → IsAmoWidth width → n < 2 ^ (8 * width) → r < 2 ^ 64
    → r ≡ extend_value width true n → z ≡ cast_signed w64 r → reading w64 z ≡ signed_value (8 * width) n
unfolding extend_value
extended_read width n r z h n_fits r_fits er ez =
    signed_value_read w64 r z r_fits ez ∙ ap (signed_value 64) er
    ∙ ap (λ x. signed_value 64 (sign_extended (8 * width) x)) (mod-eq_of_lt n_fits)
    ∙ signed_value-sign_extended width n h n_fits
