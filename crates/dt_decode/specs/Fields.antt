-- The fields of a 32-bit instruction word and its immediates (The RISC-V Instruction Set Manual, Volume I,
-- sections 2.2 and 2.3).
use Rattle.std.specs.Prelude.{ℕ, Bool, ◌==◌, ◌+◌, ◌-◌, ◌*◌, ◌/◌, ◌%◌, ◌^◌, if◌then◌else◌, nat_lt}

-- the number in the `width` bits of a word from bit `low` on
abbrev pub field : ℕ → ℕ → ℕ → ℕ
field low width bits = bits / 2 ^ low % 2 ^ width

-- the number of `width` bits modulo 2^64, where bit width - 1 is its sign
abbrev pub sign_extended : ℕ → ℕ → ℕ
sign_extended width raw = if nat_lt raw (2 ^ (width - 1)) then raw else raw + (2 ^ 64 - 2 ^ width)

abbrev pub opcode_of : ℕ → ℕ
opcode_of bits = field 0 7 bits

abbrev pub rd_of : ℕ → ℕ
rd_of bits = field 7 5 bits

abbrev pub funct3_of : ℕ → ℕ
funct3_of bits = field 12 3 bits

abbrev pub rs1_of : ℕ → ℕ
rs1_of bits = field 15 5 bits

abbrev pub rs2_of : ℕ → ℕ
rs2_of bits = field 20 5 bits

abbrev pub funct7_of : ℕ → ℕ
funct7_of bits = field 25 7 bits

-- one bit of a word
abbrev pub flag : ℕ → ℕ → Bool
flag at bits = field at 1 bits == 1

-- format I: imm[11:0] in bits 31:20
abbrev pub imm_i : ℕ → ℕ
imm_i bits = sign_extended 12 (field 20 12 bits)

-- format S: imm[11:5] in bits 31:25, imm[4:0] in bits 11:7
abbrev pub imm_s : ℕ → ℕ
imm_s bits = sign_extended 12 (field 25 7 bits * 2 ^ 5 + field 7 5 bits)

-- format B: imm[12|10:5] in bits 31:25, imm[4:1|11] in bits 11:7
abbrev pub imm_b : ℕ → ℕ
imm_b bits =
    sign_extended 13 (field 31 1 bits * 2 ^ 12 + field 7 1 bits * 2 ^ 11 + field 25 6 bits * 2 ^ 5 + field 8 4 bits * 2)

-- format U: imm[31:12] in bits 31:12
abbrev pub imm_u : ℕ → ℕ
imm_u bits = sign_extended 32 (field 12 20 bits * 2 ^ 12)

-- format J: imm[20|10:1|11|19:12] in bits 31:12
abbrev pub imm_j : ℕ → ℕ
imm_j bits =
    sign_extended 21 (field 31 1 bits * 2 ^ 20 + field 12 8 bits * 2 ^ 12 + field 20 1 bits * 2 ^ 11 + field 21 10 bits * 2)
