use Rattle.std.specs.Prelude.{ℕ, ◌-◌, ◌*◌, ◌/◌, ◌%◌, ◌^◌, pos, ◌-ℤ◌, ◌*ℤ◌, ℤ, Bool, true, false, ◌&&◌, ◌==◌, nat_lt, int_lt, int_div, int_rem, bit_and, bit_or, bit_xor, if◌then◌else◌}
use Rattle.std.specs.Int.{int_div_euclid}
use Rattle.dt_alu.specs.declared.operations.AluOp.{AluOp}
use Rattle.dt_alu.specs.declared.operations.AluOp.TheVariants.{Add, Sub, Sll, Slt, Sltu, Xor, Srl, Sra, Or, And, Mul, Mulh, Mulhsu, Mulhu, Div, Divu, Rem, Remu}
use Rattle.dt_alu.specs.Words.{signed_value, word_of, sum_of}
use Rattle.dt_alu.specs.Extend.{extend_value}

-- the operations that RV64 also has for 32-bit words (Volume I, sections 5.2, 7.1 and 7.2)
abbrev pub has_word_form : AluOp → Bool
has_word_form Add = true
has_word_form Sub = true
has_word_form Sll = true
has_word_form Srl = true
has_word_form Sra = true
has_word_form Mul = true
has_word_form Div = true
has_word_form Divu = true
has_word_form Rem = true
has_word_form Remu = true
has_word_form Slt = false
has_word_form Sltu = false
has_word_form Xor = false
has_word_form Or = false
has_word_form And = false
has_word_form Mulh = false
has_word_form Mulhsu = false
has_word_form Mulhu = false

-- Each operation below is on words x and y of k bits.

-- the difference modulo 2^k (Volume I, section 2.4)
abbrev pub difference_of : ℕ → ℕ → ℕ → ℕ
difference_of k x y = word_of k (pos x -ℤ pos y)

-- how far a shift goes: by the low 6 bits of y at 64 bits, and the low 5 at 32 (Volume I, section 5.2)
abbrev pub shift_amount : ℕ → ℕ → ℕ
shift_amount k y = y % k

-- a shift to the left multiplies by a power of two, modulo 2^k (Volume I, section 2.4)
abbrev pub left_shift_of : ℕ → ℕ → ℕ → ℕ
left_shift_of k x y = (x * 2 ^ shift_amount k y) % 2 ^ k

-- a logical shift to the right divides by a power of two, rounded down (Volume I, section 2.4)
abbrev pub logical_shift_of : ℕ → ℕ → ℕ → ℕ
logical_shift_of k x y = x / 2 ^ shift_amount k y

-- an arithmetic shift to the right divides the signed value by a power of two, rounded down (Volume I, section 2.4)
abbrev pub arithmetic_shift_of : ℕ → ℕ → ℕ → ℕ
arithmetic_shift_of k x y = word_of k (int_div_euclid (signed_value k x) (pos (2 ^ shift_amount k y)))

-- 1 where x is less than y as a signed number, else 0 (Volume I, section 2.4)
abbrev pub signed_less_of : ℕ → ℕ → ℕ → ℕ
signed_less_of k x y = if int_lt (signed_value k x) (signed_value k y) then 1 else 0

-- 1 where x is less than y as an unsigned number, else 0 (Volume I, section 2.4)
abbrev pub unsigned_less_of : ℕ → ℕ → ℕ
unsigned_less_of x y = if nat_lt x y then 1 else 0

-- the lower half of the product (Volume I, section 7.1)
abbrev pub product_of : ℕ → ℕ → ℕ → ℕ
product_of k x y = (x * y) % 2 ^ k

-- the upper half of a whole product of two k-bit factors (Volume I, section 7.1)
abbrev pub upper_half_of : ℕ → ℤ → ℕ
upper_half_of k whole = word_of k (int_div_euclid whole (pos (2 ^ k)))

-- the least signed number divided by -1, the only quotient that does not fit (Volume I, section 7.2)
abbrev pub is_overflow : ℕ → ℕ → ℕ → Bool
is_overflow k x y = (x == 2 ^ (k - 1)) && (y == 2 ^ k - 1)

-- the signed quotient, rounded toward zero; all ones by zero, and the dividend on overflow (Volume I, section 7.2)
abbrev pub signed_quotient_of : ℕ → ℕ → ℕ → ℕ
signed_quotient_of k x y =
    if y == 0 then (2 ^ k - 1) else (if is_overflow k x y then x else word_of k (int_div (signed_value k x) (signed_value k y)))

-- the remainder of that division, with the dividend's sign; the dividend by zero, and 0 on overflow (Volume I, section 7.2)
abbrev pub signed_remainder_of : ℕ → ℕ → ℕ → ℕ
signed_remainder_of k x y =
    if y == 0 then x else (if is_overflow k x y then 0 else word_of k (int_rem (signed_value k x) (signed_value k y)))

-- the unsigned quotient; all ones by zero (Volume I, section 7.2)
abbrev pub unsigned_quotient_of : ℕ → ℕ → ℕ → ℕ
unsigned_quotient_of k x y = if y == 0 then (2 ^ k - 1) else (x / y)

-- the remainder of that division; the dividend by zero (Volume I, section 7.2)
abbrev pub unsigned_remainder_of : ℕ → ℕ → ℕ
unsigned_remainder_of x y = if y == 0 then x else (x % y)

-- the word of k bits that an operation gives. MULHSU takes x as signed and y as unsigned (Volume I, section 7.1)
unfoldable pub operation_value : ℕ → AluOp → ℕ → ℕ → ℕ
operation_value k Add x y = sum_of k x y
operation_value k Sub x y = difference_of k x y
operation_value k Sll x y = left_shift_of k x y
operation_value k Slt x y = signed_less_of k x y
operation_value k Sltu x y = unsigned_less_of x y
operation_value k Xor x y = bit_xor x y
operation_value k Srl x y = logical_shift_of k x y
operation_value k Sra x y = arithmetic_shift_of k x y
operation_value k Or x y = bit_or x y
operation_value k And x y = bit_and x y
operation_value k Mul x y = product_of k x y
operation_value k Mulh x y = upper_half_of k (signed_value k x *ℤ signed_value k y)
operation_value k Mulhsu x y = upper_half_of k (signed_value k x *ℤ pos y)
operation_value k Mulhu x y = upper_half_of k (pos x *ℤ pos y)
operation_value k Div x y = signed_quotient_of k x y
operation_value k Divu x y = unsigned_quotient_of k x y
operation_value k Rem x y = signed_remainder_of k x y
operation_value k Remu x y = unsigned_remainder_of x y

-- the value of an instruction: its operation on 64-bit words, or for a W form on their low 32 bits, sign-extended (Volume I, section 5.2)
unfoldable pub alu_value : AluOp → Bool → ℕ → ℕ → ℕ
alu_value op false a b = operation_value 64 op a b
alu_value op true a b = extend_value 4 true (operation_value 32 op (a % 2 ^ 32) (b % 2 ^ 32))
