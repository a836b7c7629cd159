-- The fields of a 16-bit instruction and its immediates (The RISC-V Instruction Set Manual, Volume I, sections 16.2
-- and 16.8). In each immediate a bit of the instruction stands at its place, and the places that no bit has are 0.
use Rattle.std.specs.Prelude.{ℕ, ◌+◌, ◌-◌, ◌*◌, ◌/◌, ◌%◌, ◌^◌, if◌then◌else◌, nat_lt}

-- the number in the `width` bits from bit `low` on
abbrev pub field : ℕ → ℕ → ℕ → ℕ
field low width bits = bits / 2 ^ low % 2 ^ width

-- the number of `width` bits modulo 2^64, where bit width - 1 is its sign
abbrev pub sign_extended : ℕ → ℕ → ℕ
sign_extended width raw = if nat_lt raw (2 ^ (width - 1)) then raw else raw + (2 ^ 64 - 2 ^ width)

-- rd, or rs1, in bits 11:7
abbrev pub rd_of : ℕ → ℕ
rd_of half = field 7 5 half

-- rs2 in bits 6:2
abbrev pub rs2_of : ℕ → ℕ
rs2_of half = field 2 5 half

-- one of x8 to x15, by the three bits from bit `low` on
abbrev pub short_register : ℕ → ℕ → ℕ
short_register low half = 8 + field low 3 half

-- rd' or rs2' in bits 4:2
abbrev pub short_rd_of : ℕ → ℕ
short_rd_of half = short_register 2 half

-- rs1', or rd' where it is also the first operand, in bits 9:7
abbrev pub short_rs1_of : ℕ → ℕ
short_rs1_of half = short_register 7 half

-- uimm[5:4|9:6|2|3] in bits 12:5
abbrev pub imm_addi4spn : ℕ → ℕ
imm_addi4spn half = field 11 2 half * 2 ^ 4 + field 7 4 half * 2 ^ 6 + field 6 1 half * 2 ^ 2 + field 5 1 half * 2 ^ 3

-- uimm[5:3] in bits 12:10, uimm[2|6] in bits 6:5
abbrev pub imm_word : ℕ → ℕ
imm_word half = field 10 3 half * 2 ^ 3 + field 6 1 half * 2 ^ 2 + field 5 1 half * 2 ^ 6

-- uimm[5:3] in bits 12:10, uimm[7:6] in bits 6:5
abbrev pub imm_double : ℕ → ℕ
imm_double half = field 10 3 half * 2 ^ 3 + field 5 2 half * 2 ^ 6

-- an amount: shamt[5] in bit 12, shamt[4:0] in bits 6:2
abbrev pub amount_of : ℕ → ℕ
amount_of half = field 12 1 half * 2 ^ 5 + field 2 5 half

-- imm[5] in bit 12, imm[4:0] in bits 6:2, signed
abbrev pub imm_small : ℕ → ℕ
imm_small half = sign_extended 6 (field 12 1 half * 2 ^ 5 + field 2 5 half)

-- imm[9] in bit 12, imm[4|6|8:7|5] in bits 6:2, signed
abbrev pub imm_addi16sp : ℕ → ℕ
imm_addi16sp half =
    sign_extended 10
    (field 12 1 half * 2 ^ 9 + field 6 1 half * 2 ^ 4 + field 5 1 half * 2 ^ 6 + field 3 2 half * 2 ^ 7 + field 2 1 half * 2 ^ 5)

-- imm[17] in bit 12, imm[16:12] in bits 6:2, signed
abbrev pub imm_lui : ℕ → ℕ
imm_lui half = sign_extended 18 (field 12 1 half * 2 ^ 17 + field 2 5 half * 2 ^ 12)

-- imm[11|4|9:8|10|6|7|3:1|5] in bits 12:2, signed
abbrev pub imm_jump : ℕ → ℕ
imm_jump half =
    sign_extended 12
    (field 12 1 half * 2 ^ 11 + field 11 1 half * 2 ^ 4 + field 9 2 half * 2 ^ 8 + field 8 1 half * 2 ^ 10
    + field 7 1 half * 2 ^ 6 + field 6 1 half * 2 ^ 7 + field 3 3 half * 2 ^ 1 + field 2 1 half * 2 ^ 5)

-- imm[8|4:3] in bits 12:10, imm[7:6|2:1|5] in bits 6:2, signed
abbrev pub imm_branch : ℕ → ℕ
imm_branch half =
    sign_extended 9
    (field 12 1 half * 2 ^ 8 + field 10 2 half * 2 ^ 3 + field 5 2 half * 2 ^ 6 + field 3 2 half * 2 ^ 1 + field 2 1 half * 2 ^ 5)

-- uimm[5] in bit 12, uimm[4:2|7:6] in bits 6:2
abbrev pub imm_lwsp : ℕ → ℕ
imm_lwsp half = field 12 1 half * 2 ^ 5 + field 4 3 half * 2 ^ 2 + field 2 2 half * 2 ^ 6

-- uimm[5] in bit 12, uimm[4:3|8:6] in bits 6:2
abbrev pub imm_ldsp : ℕ → ℕ
imm_ldsp half = field 12 1 half * 2 ^ 5 + field 5 2 half * 2 ^ 3 + field 2 3 half * 2 ^ 6

-- uimm[5:2|7:6] in bits 12:7
abbrev pub imm_swsp : ℕ → ℕ
imm_swsp half = field 9 4 half * 2 ^ 2 + field 7 2 half * 2 ^ 6

-- uimm[5:3|8:6] in bits 12:7
abbrev pub imm_sdsp : ℕ → ℕ
imm_sdsp half = field 10 3 half * 2 ^ 3 + field 7 3 half * 2 ^ 6
