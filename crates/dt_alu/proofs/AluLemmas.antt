use Rattle.std.proofs.Common.{◌≡◌, ◌≢◌, ℕ, ◌-◌, ◌*◌, ◌/◌, ◌%◌, ◌^◌, ◌<◌, ◌≤◌, refl, sym, ap, ◌∙◌, arith, ℤ, pos, negsuc, ◌*ℤ◌, FitsSigned, int_div, int_rem, unsigned_abs}
use Rattle.std.specs.Int.{Width, w8, w16, w32, w64, w128, cast_signed, int_shr, int_wrapping_div}
use Rattle.std.specs.Int.Signed.{mag, nat_abs-le}
use Rattle.std.proofs.lemmas.Int.{to_z-of_z, of_z-to_z, fits_signed_from_abs, fits_signed_mul}
use Rattle.std.proofs.lemmas.Bool.Decides.{nat_tests}
use Rattle.std.proofs.lemmas.Nat.{div_below, mul-lt}
use Rattle.std.proofs.Math.Nat.{mod-eq_of_lt}
use Rattle.std.proofs.Math.Dec.{lit<}
use mir.Val.{bits}
use Rattle.dt_alu.specs.Words.{signed_value, word_of}
use Rattle.dt_alu.specs.Alu.{arithmetic_shift_of, signed_quotient_of, signed_remainder_of, upper_half_of}
use Rattle.dt_alu.proofs.WordLemmas.{reading, writing, signed_value_read, signed_value_fits, word_of_written, word_of_below, int_shr_is, mag-int_shr_fits, mag-int_div_fits, mag-int_rem_fits}

-- what the casts and the shift of the signed type make of a word
pub arithmetic_shift_is : (w : Width) (a b r : ℕ) (x : ℤ) → a < 2 ^ bits w → x ≡ cast_signed w a
    → r ≡ writing w (int_shr (reading w x) (b % bits w)) → r ≡ arithmetic_shift_of (bits w) a b
arithmetic_shift_is w a b r x h e k =
    let s : ℤ = signed_value (bits w) a
    in k ∙ ap (λ z. writing w (int_shr z (b % bits w))) (signed_value_read w a x h e)
    ∙ word_of_written w (int_shr s (b % bits w)) (mag-int_shr_fits w s (b % bits w) (signed_value_fits w a h))
    ∙ ap (word_of (bits w)) (int_shr_is s (b % bits w))

-- ---- division

-- the quotient that does not fit is the dividend again, and its remainder is 0
overflow_quotient : (w : Width)
    → word_of (bits w) (int_div (signed_value (bits w) (2 ^ (bits w - 1))) (signed_value (bits w) (2 ^ bits w - 1))) ≡ 2 ^ (bits w - 1)
unfolding word_of signed_value
overflow_quotient w8 = refl
overflow_quotient w16 = refl
overflow_quotient w32 = refl
overflow_quotient w64 = refl
overflow_quotient w128 = refl

overflow_remainder : (w : Width)
    → word_of (bits w) (int_rem (signed_value (bits w) (2 ^ (bits w - 1))) (signed_value (bits w) (2 ^ bits w - 1))) ≡ 0
unfolding word_of signed_value
overflow_remainder w8 = refl
overflow_remainder w16 = refl
overflow_remainder w32 = refl
overflow_remainder w64 = refl
overflow_remainder w128 = refl

quotient_by_nonzero : (w : Width) (a b : ℕ) → b ≢ 0
    → word_of (bits w) (int_div (signed_value (bits w) a) (signed_value (bits w) b)) ≡ signed_quotient_of (bits w) a b
quotient_by_nonzero w a b ne = grind (arith, nat_tests, overflow_quotient w)

remainder_by_nonzero : (w : Width) (a b : ℕ) → b ≢ 0
    → word_of (bits w) (int_rem (signed_value (bits w) a) (signed_value (bits w) b)) ≡ signed_remainder_of (bits w) a b
remainder_by_nonzero w a b ne = grind (arith, nat_tests, overflow_remainder w)

-- what the casts and the division of the signed type make of two words
pub signed_quotient_is : (w : Width) (a b r : ℕ) (x y q : ℤ) → a < 2 ^ bits w → b < 2 ^ bits w → b ≢ 0
    → x ≡ cast_signed w a → y ≡ cast_signed w b → q ≡ int_wrapping_div w (reading w x) (reading w y)
    → r ≡ writing w q → r ≡ signed_quotient_of (bits w) a b
signed_quotient_is w a b r x y q a_fits b_fits ne ex ey eq er =
    let u : ℤ = int_div (signed_value (bits w) a) (signed_value (bits w) b)
    in let fits : mag u < 2 ^ bits w = mag-int_div_fits w (signed_value (bits w) a) (signed_value (bits w) b) (signed_value_fits w a a_fits)
    in let divides : q ≡ reading w u = rw (signed_value_read w a x a_fits ex, signed_value_read w b y b_fits ey) at eq
    in er ∙ ap (λ z. writing w z) divides
    ∙ of_z-to_z w (writing w u) (rw word_of_written (word_of_below (bits w) u))
    ∙ word_of_written w u fits
    ∙ quotient_by_nonzero w a b ne

pub signed_remainder_is : (w : Width) (a b r : ℕ) (x y q : ℤ) → a < 2 ^ bits w → b < 2 ^ bits w → b ≢ 0
    → x ≡ cast_signed w a → y ≡ cast_signed w b → q ≡ int_rem (reading w x) (reading w y) → r ≡ writing w q
    → r ≡ signed_remainder_of (bits w) a b
signed_remainder_is w a b r x y q a_fits b_fits ne ex ey eq er =
    let u : ℤ = int_rem (signed_value (bits w) a) (signed_value (bits w) b)
    in let fits : mag u < 2 ^ bits w = mag-int_rem_fits w (signed_value (bits w) a) (signed_value (bits w) b) (signed_value_fits w a a_fits)
    in let divides : q ≡ u = rw (signed_value_read w a x a_fits ex, signed_value_read w b y b_fits ey) at eq
    in er ∙ ap (λ z. writing w z) divides ∙ word_of_written w u fits
    ∙ remainder_by_nonzero w a b ne

-- ---- the upper half of a product

mag-int_shr : (z : ℤ) (d : ℕ) → mag (int_shr z d) ≡ mag z / 2 ^ d
mag-int_shr (pos n) d = refl
mag-int_shr (negsuc n) d = refl

-- what a shift of the whole product by 64 bits and the casts make
pub upper_half_is : (r : ℕ) (whole : ℤ) → FitsSigned w128 whole
    → r ≡ writing w64 (reading w128 (int_shr (reading w128 whole) 64)) → r ≡ upper_half_of 64 whole
upper_half_is r whole f e =
    let z : ℤ = int_shr whole 64
    in let small : mag z < 2 ^ 64 = rw mag-int_shr (div_below (mag whole) (2 ^ 64) (2 ^ 64) (lit< tt) (omega (arith, f.sfits)))
    in let fits : FitsSigned w128 z = record { sfits = omega (arith, small) }
    in e ∙ ap (λ x. writing w64 (reading w128 (int_shr x 64))) (to_z-of_z w128 whole f)
    ∙ ap (λ x. writing w64 x) (to_z-of_z w128 z fits)
    ∙ word_of_written w64 z small
    ∙ ap (word_of 64) (int_shr_is whole 64)

-- the whole product of p and q, as the 128-bit type computes it
pub upper_half_of_product : (r m n : ℕ) (x y p q : ℤ) → x ≡ p → y ≡ q → unsigned_abs p ≤ m → unsigned_abs q ≤ n
    → m < 2 ^ 127 → n < 2 ^ 127 → m * n < 2 ^ 127
    → r ≡ upper_half_of 64 (reading w128 (reading w128 x *ℤ reading w128 y)) → r ≡ upper_half_of 64 (p *ℤ q)
upper_half_of_product r m n x y p q ex ey p_most q_most m_fits n_fits fits e =
    let fp : FitsSigned w128 p = fits_signed_from_abs w128 p (omega arith)
    in let fq : FitsSigned w128 q = fits_signed_from_abs w128 q (omega arith)
    in let fpq : FitsSigned w128 (p *ℤ q) = fits_signed_mul w128 p q m n p_most q_most fits
    in let px : reading w128 x ≡ p = ap (λ z. reading w128 z) ex ∙ to_z-of_z w128 p fp
    in let qy : reading w128 y ≡ q = ap (λ z. reading w128 z) ey ∙ to_z-of_z w128 q fq
    in e ∙ ap (λ z. upper_half_of 64 (reading w128 (z *ℤ reading w128 y))) px
    ∙ ap (λ z. upper_half_of 64 (reading w128 (p *ℤ z))) qy
    ∙ ap (upper_half_of 64) (to_z-of_z w128 (p *ℤ q) fpq)

pub signed_value_most : (n : ℕ) → n < 2 ^ 64 → unsigned_abs (signed_value 64 n) ≤ 2 ^ 63
signed_value_most n h = nat_abs-le (signed_value 64 n) (signed_value_fits w64 n h).sfits

-- the upper half of an unsigned product fits 64 bits by itself
pub upper_half_of_unsigned : (a b : ℕ) → a < 2 ^ 64 → b < 2 ^ 64 → a * b / 2 ^ 64 ≡ upper_half_of 64 (pos (a * b))
unfolding word_of
upper_half_of_unsigned a b ha hb = sym (mod-eq_of_lt (div_below (a * b) (2 ^ 64) (2 ^ 64) (lit< tt) (mul-lt a b (2 ^ 64) (2 ^ 64) ha hb)))
