use Rattle.std.proofs.Common.{◌≡◌, ℕ, zero, suc, ◌+◌, ◌-◌, ◌*◌, ◌/◌, ◌%◌, ◌^◌, ◌<◌, ◌≤◌, zero-le, refl, sym, ap, ◌∙◌, arith, ℤ, pos, negsuc, neg_ℤ, ◌+ℤ◌, ◌-ℤ◌, unsigned_abs, FitsSigned, int_div, int_rem}
use Rattle.std.specs.Int.{Width, w8, w16, w32, w64, w128, cast_signed, cast_unsigned, int_div_euclid, int_shr}
use Rattle.std.specs.Int.Signed.{mag, mag_rem, mag_shr, nat_abs-le}
use Rattle.std.proofs.lemmas.Int.{ints, to_z-of_z, of_z-to_z, int_rem_euclid_is}
use Rattle.std.proofs.lemmas.Nat.{pow_pos, mod_below}
use Rattle.std.proofs.Math.Facts.{sfits_to_z}
use Rattle.std.proofs.Math.Nat.{mod-eq_of_lt, div-le_self, le-suc}
use Rattle.std.proofs.Math.Dec.{lit<}
use mir.Val.{bits, hbits}
use Rattle.dt_alu.specs.Words.{signed_value, word_of}

-- what an operation of the signed type reads of an integer, and what a cast to the unsigned type writes of that
abbrev pub reading : Width → ℤ → ℤ
reading w z = cast_signed w (cast_unsigned w z)

abbrev pub writing : Width → ℤ → ℕ
writing w z = cast_unsigned w (reading w z)

-- ---- the signed value of a word

-- it is what a cast to the signed type reads
pub signed_value_is : (w : Width) (n : ℕ) → n < 2 ^ bits w → signed_value (bits w) n ≡ cast_signed w n
unfolding signed_value
signed_value_is w8 n h = grind (arith, ints)
signed_value_is w16 n h = grind (arith, ints)
signed_value_is w32 n h = grind (arith, ints)
signed_value_is w64 n h = grind (arith, ints)
signed_value_is w128 n h = grind (arith, ints)

-- the same where an operation of the signed type reads the result of the cast
pub signed_value_read : (w : Width) (n : ℕ) (z : ℤ) → n < 2 ^ bits w → z ≡ cast_signed w n
    → reading w z ≡ signed_value (bits w) n
signed_value_read w n z h e =
    ap (λ x. reading w x) e ∙ ap (cast_signed w) (of_z-to_z w n h) ∙ sym (signed_value_is w n h)

pub signed_value_fits : (w : Width) (n : ℕ) → n < 2 ^ bits w → FitsSigned w (signed_value (bits w) n)
signed_value_fits w n h = rw signed_value_is (sfits_to_z (record { fits = h }))

-- ---- the word of an integer

pub half_below_whole : (w : Width) → 2 ^ hbits w < 2 ^ bits w
half_below_whole w8 = lit< tt
half_below_whole w16 = lit< tt
half_below_whole w32 = lit< tt
half_below_whole w64 = lit< tt
half_below_whole w128 = lit< tt

pub cast_unsigned_below : (w : Width) (z : ℤ) → mag z < 2 ^ bits w → cast_unsigned w z < 2 ^ bits w
cast_unsigned_below w (pos n) h = h
cast_unsigned_below w (negsuc n) h = omega arith

-- it is what a cast to the unsigned type writes
pub word_of_is : (w : Width) (z : ℤ) → mag z < 2 ^ bits w → word_of (bits w) z ≡ cast_unsigned w z
unfolding word_of
word_of_is w (pos n) h = mod-eq_of_lt h
word_of_is w (negsuc n) h = let e : n % 2 ^ bits w ≡ n = mod-eq_of_lt h in omega arith

-- the same where the integer was read as the signed type before the cast
pub word_of_written : (w : Width) (z : ℤ) → mag z < 2 ^ bits w → writing w z ≡ word_of (bits w) z
word_of_written w z h = of_z-to_z w (cast_unsigned w z) (cast_unsigned_below w z h) ∙ sym (word_of_is w z h)

pub word_of_below : (k : ℕ) (z : ℤ) → word_of k z < 2 ^ k
unfolding word_of
word_of_below k (pos n) = mod_below n (2 ^ k) (pow_pos k)
word_of_below k (negsuc n) = omega (arith, pow_pos k)

-- a word is the word of its signed value, and an integer that fits is the signed value of its word
pub word_of-signed_value : (w : Width) (n : ℕ) → n < 2 ^ bits w → word_of (bits w) (signed_value (bits w) n) ≡ n
word_of-signed_value w n h =
    let fits : mag (signed_value (bits w) n) < 2 ^ bits w = omega (arith, (signed_value_fits w n h).sfits, half_below_whole w)
    in word_of_is w (signed_value (bits w) n) fits ∙ ap (cast_unsigned w) (signed_value_is w n h) ∙ of_z-to_z w n h

pub signed_value-word_of : (w : Width) (z : ℤ) → FitsSigned w z → signed_value (bits w) (word_of (bits w) z) ≡ z
signed_value-word_of w z f =
    let fits : mag z < 2 ^ bits w = omega (arith, f.sfits, half_below_whole w)
    in signed_value_is w (word_of (bits w) z) (word_of_below (bits w) z) ∙ ap (cast_signed w) (word_of_is w z fits) ∙ to_z-of_z w z f

-- a difference of words, as `wrapping_sub` computes it
pub word_of-difference : (k x y : ℕ) → y ≤ 2 ^ k → word_of k (pos x -ℤ pos y) ≡ (x + (2 ^ k - y)) % 2 ^ k
unfolding word_of
word_of-difference k x y h =
    let e : (pos x -ℤ pos y) +ℤ pos (1 * 2 ^ k) ≡ pos (x + (2 ^ k - y)) = omega (arith, ints)
    in ap unsigned_abs (int_rem_euclid_is (pos x -ℤ pos y) (pos (2 ^ k)) (2 ^ k) 1 (x + (2 ^ k - y)) (pow_pos k) refl e)

-- ---- division by a power of two, and the whole quotient and remainder

pub int_shr_is : (z : ℤ) (d : ℕ) → int_shr z d ≡ int_div_euclid z (pos (2 ^ d))
int_shr_is (pos n) d = refl
int_shr_is (negsuc n) d = refl

mag-neg_le : (q : ℕ) → mag (neg_ℤ (pos q)) ≤ q
mag-neg_le zero = zero-le
mag-neg_le (suc q) = le-suc q

mag-int_div_le : (a d : ℤ) → mag (int_div a d) ≤ unsigned_abs a
mag-int_div_le (pos a) (pos d) = div-le_self a d
mag-int_div_le (pos a) (negsuc d) = omega (arith, mag-neg_le (a / suc d), div-le_self a (suc d))
mag-int_div_le (negsuc a) (pos d) = omega (arith, mag-neg_le (suc a / d), div-le_self (suc a) d)
mag-int_div_le (negsuc a) (negsuc d) = div-le_self (suc a) (suc d)

-- a signed shift, division or remainder of a signed value fits the bits of the word
pub mag-int_shr_fits : (w : Width) (z : ℤ) (d : ℕ) → FitsSigned w z → mag (int_shr z d) < 2 ^ bits w
mag-int_shr_fits w z d f = omega (arith, mag_shr z (2 ^ d), f.sfits, half_below_whole w)

pub mag-int_div_fits : (w : Width) (a d : ℤ) → FitsSigned w a → mag (int_div a d) < 2 ^ bits w
mag-int_div_fits w a d f = omega (arith, mag-int_div_le a d, nat_abs-le a f.sfits, half_below_whole w)

pub mag-int_rem_fits : (w : Width) (a d : ℤ) → FitsSigned w a → mag (int_rem a d) < 2 ^ bits w
mag-int_rem_fits w a d f = omega (arith, mag_rem a d, f.sfits, half_below_whole w)

pub ruleset differences = (word_of-difference)
