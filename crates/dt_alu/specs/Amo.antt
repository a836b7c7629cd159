use Rattle.std.specs.Prelude.{◌≡◌, ℕ, ◌*◌, min, max, ◌⊎◌, int_lt, bit_and, bit_or, bit_xor, if◌then◌else◌}
use Rattle.dt_alu.specs.declared.operations.AmoOp.{AmoOp}
use Rattle.dt_alu.specs.declared.operations.AmoOp.TheVariants.{Swap, Add, Xor, And, Or, Min, Max, Minu, Maxu}
use Rattle.dt_alu.specs.Words.{signed_value, sum_of}
use Rattle.dt_alu.specs.Extend.{low_bytes_of}

-- an atomic memory operation works on 4 or 8 bytes (Volume I, section 8.4)
abbrev pub IsAmoWidth : ℕ → Type 0
IsAmoWidth width = (width ≡ 4) ⊎ (width ≡ 8)

-- the lesser and the greater of two words of k bits as signed numbers
abbrev pub lesser_of : ℕ → ℕ → ℕ → ℕ
lesser_of k x y = if int_lt (signed_value k x) (signed_value k y) then x else y

abbrev pub greater_of : ℕ → ℕ → ℕ → ℕ
greater_of k x y = if int_lt (signed_value k x) (signed_value k y) then y else x

-- the word of k bits that an atomic memory operation writes where memory has x and the register y (Volume I, section 8.4)
unfoldable pub written_word : ℕ → AmoOp → ℕ → ℕ → ℕ
written_word k Swap x y = y
written_word k Add x y = sum_of k x y
written_word k Xor x y = bit_xor x y
written_word k And x y = bit_and x y
written_word k Or x y = bit_or x y
written_word k Min x y = lesser_of k x y
written_word k Max x y = greater_of k x y
written_word k Minu x y = min x y
written_word k Maxu x y = max x y

-- what an atomic memory operation of this width writes: its bytes, from the low bytes of both operands
unfoldable pub amo_value : AmoOp → ℕ → ℕ → ℕ → ℕ
amo_value op width old b = written_word (8 * width) op (low_bytes_of width old) (low_bytes_of width b)
