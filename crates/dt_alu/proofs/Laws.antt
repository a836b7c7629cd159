use Rattle.std.proofs.Common.{◌≡◌, ℕ, ◌+◌, ◌-◌, ◌*◌, ◌/◌, ◌%◌, ◌^◌, ◌<◌, refl, arith, Bool, true, false, cond, if◌then◌else◌, ◌==◌, nat_lt, int_lt, int_div, int_rem, ℤ, pos, ◌-ℤ◌, ◌*ℤ◌, inl, inr}
use Rattle.std.specs.Int.{int_div_euclid}
use Rattle.std.proofs.Math.Dec.{lit<}
use Rattle.std.proofs.lemmas.Nat.{pow_pos, mod_below, or_lt, xor_lt, and_le_l}
use Rattle.std.proofs.Math.Nat.{mod-eq_of_lt, mod-mod, div-le_self, mod-le}
use Rattle.dt_alu.specs.declared.operations.AluOp.{AluOp}
use Rattle.dt_alu.specs.declared.operations.AluOp.TheVariants.{Add, Sub, Sll, Slt, Sltu, Xor, Srl, Sra, Or, And, Mul, Mulh, Mulhsu, Mulhu, Div, Divu, Rem, Remu}
use Rattle.dt_alu.specs.declared.operations.AmoOp.{AmoOp}
use Rattle.dt_alu.specs.declared.operations.AmoOp.TheVariants as Amo
use Rattle.dt_alu.specs.Words.{signed_value, word_of}
use Rattle.dt_alu.specs.Extend.{IsAccessWidth, low_bytes_of, extend_value}
use Rattle.dt_alu.specs.Alu.{is_overflow, operation_value, alu_value}
use Rattle.dt_alu.specs.Amo.{written_word, amo_value}
use Rattle.dt_alu.proofs.WordLemmas.{word_of_below}
use Rattle.dt_alu.proofs.ExtendLemmas.{range_within_64, sign_extended_whole}

-- What callers may want of the values that the four calls give.

pub extend_value-below : (width : ℕ) (signed : Bool) (raw : ℕ) → IsAccessWidth width
    → extend_value width signed raw < 2 ^ 64
unfolding extend_value
extend_value-below width true raw h = word_of_below 64 (signed_value (8 * width) (low_bytes_of width raw))
extend_value-below width false raw h = omega (arith, range_within_64 width h, mod_below raw (2 ^ (8 * width)) (pow_pos (8 * width)))

pub extend_value-whole : (signed : Bool) (raw : ℕ) → raw < 2 ^ 64 → extend_value 8 signed raw ≡ raw
unfolding extend_value
extend_value-whole true raw h = sign_extended_whole 8 raw refl h
extend_value-whole false raw h = mod-eq_of_lt h

-- only the low bytes matter
pub extend_value-low_bytes_of : (width : ℕ) (signed : Bool) (raw : ℕ)
    → extend_value width signed (low_bytes_of width raw) ≡ extend_value width signed raw
unfolding extend_value
extend_value-low_bytes_of width true raw = rw mod-mod
extend_value-low_bytes_of width false raw = rw mod-mod

choice_below : (b : Bool) (x y n : ℕ) → x < n → y < n → cond b x y < n
choice_below true x y n hx hy = hx
choice_below false x y n hx hy = hy

operation_value-below : (op : AluOp) (x y : ℕ) → x < 2 ^ 64 → y < 2 ^ 64 → operation_value 64 op x y < 2 ^ 64
unfolding operation_value
operation_value-below Add x y hx hy = mod_below (x + y) (2 ^ 64) (pow_pos 64)
operation_value-below Sub x y hx hy = word_of_below 64 (pos x -ℤ pos y)
operation_value-below Sll x y hx hy = mod_below (x * 2 ^ (y % 64)) (2 ^ 64) (pow_pos 64)
operation_value-below Slt x y hx hy = choice_below (int_lt (signed_value 64 x) (signed_value 64 y)) 1 0 (2 ^ 64) (lit< tt) (lit< tt)
operation_value-below Sltu x y hx hy = choice_below (nat_lt x y) 1 0 (2 ^ 64) (lit< tt) (lit< tt)
operation_value-below Xor x y hx hy = xor_lt 64 x y hx hy
operation_value-below Srl x y hx hy = omega (arith, div-le_self x (2 ^ (y % 64)))
operation_value-below Sra x y hx hy = word_of_below 64 (int_div_euclid (signed_value 64 x) (pos (2 ^ (y % 64))))
operation_value-below Or x y hx hy = or_lt 64 x y hx hy
operation_value-below And x y hx hy = omega (arith, and_le_l x y)
operation_value-below Mul x y hx hy = mod_below (x * y) (2 ^ 64) (pow_pos 64)
operation_value-below Mulh x y hx hy = word_of_below 64 (int_div_euclid (signed_value 64 x *ℤ signed_value 64 y) (pos (2 ^ 64)))
operation_value-below Mulhsu x y hx hy = word_of_below 64 (int_div_euclid (signed_value 64 x *ℤ pos y) (pos (2 ^ 64)))
operation_value-below Mulhu x y hx hy = word_of_below 64 (int_div_euclid (pos x *ℤ pos y) (pos (2 ^ 64)))
operation_value-below Div x y hx hy =
    let q : ℤ = int_div (signed_value 64 x) (signed_value 64 y)
    in choice_below (y == 0) (2 ^ 64 - 1) (if is_overflow 64 x y then x else word_of 64 q) (2 ^ 64) (lit< tt)
    (choice_below (is_overflow 64 x y) x (word_of 64 q) (2 ^ 64) hx (word_of_below 64 q))
operation_value-below Divu x y hx hy = choice_below (y == 0) (2 ^ 64 - 1) (x / y) (2 ^ 64) (lit< tt) (omega (arith, div-le_self x y))
operation_value-below Rem x y hx hy =
    let r : ℤ = int_rem (signed_value 64 x) (signed_value 64 y)
    in choice_below (y == 0) x (if is_overflow 64 x y then 0 else word_of 64 r) (2 ^ 64) hx
    (choice_below (is_overflow 64 x y) 0 (word_of 64 r) (2 ^ 64) (lit< tt) (word_of_below 64 r))
operation_value-below Remu x y hx hy = choice_below (y == 0) x (x % y) (2 ^ 64) hx (omega (arith, mod-le x y))

pub alu_value-below : (op : AluOp) (word : Bool) (a b : ℕ) → a < 2 ^ 64 → b < 2 ^ 64 → alu_value op word a b < 2 ^ 64
unfolding alu_value
alu_value-below op true a b ha hb = extend_value-below 4 true (operation_value 32 op (a % 2 ^ 32) (b % 2 ^ 32)) (inr (inr (inl refl)))
alu_value-below op false a b ha hb = operation_value-below op a b ha hb

written_word-below : (k : ℕ) (op : AmoOp) (x y : ℕ) → x < 2 ^ k → y < 2 ^ k → written_word k op x y < 2 ^ k
unfolding written_word
written_word-below k Amo.Swap x y hx hy = hy
written_word-below k Amo.Add x y hx hy = mod_below (x + y) (2 ^ k) (pow_pos k)
written_word-below k Amo.Xor x y hx hy = xor_lt k x y hx hy
written_word-below k Amo.And x y hx hy = omega (arith, and_le_l x y)
written_word-below k Amo.Or x y hx hy = or_lt k x y hx hy
written_word-below k Amo.Min x y hx hy = choice_below (int_lt (signed_value k x) (signed_value k y)) x y (2 ^ k) hx hy
written_word-below k Amo.Max x y hx hy = choice_below (int_lt (signed_value k x) (signed_value k y)) y x (2 ^ k) hy hx
written_word-below k Amo.Minu x y hx hy = omega arith
written_word-below k Amo.Maxu x y hx hy = omega arith

pub amo_value-below : (op : AmoOp) (width old b : ℕ) → amo_value op width old b < 2 ^ (8 * width)
unfolding amo_value
amo_value-below op width old b =
    written_word-below (8 * width) op (low_bytes_of width old) (low_bytes_of width b)
    (mod_below old (2 ^ (8 * width)) (pow_pos (8 * width))) (mod_below b (2 ^ (8 * width)) (pow_pos (8 * width)))
