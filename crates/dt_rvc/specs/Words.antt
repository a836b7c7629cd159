-- The 32-bit words of the instructions that the 16-bit ones stand for, by format (The RISC-V Instruction Set Manual,
-- Volume I, sections 2.2 and 2.3 and chapter 24). An immediate gives its bits to the places that the format names.
use Rattle.std.specs.Prelude.{ℕ, ◌+◌, ◌*◌, ◌^◌}
use Rattle.dt_rvc.specs.Fields.{field}

-- funct7, rs2, rs1, funct3, rd and the opcode
abbrev pub format_r : ℕ → ℕ → ℕ → ℕ → ℕ → ℕ → ℕ
format_r opcode funct3 funct7 rd rs1 rs2 =
    opcode + rd * 2 ^ 7 + funct3 * 2 ^ 12 + rs1 * 2 ^ 15 + rs2 * 2 ^ 20 + funct7 * 2 ^ 25

-- imm[11:0], rs1, funct3, rd and the opcode
abbrev pub format_i : ℕ → ℕ → ℕ → ℕ → ℕ → ℕ
format_i opcode funct3 rd rs1 imm =
    opcode + rd * 2 ^ 7 + funct3 * 2 ^ 12 + rs1 * 2 ^ 15 + field 0 12 imm * 2 ^ 20

-- imm[11:5], rs2, rs1, funct3, imm[4:0] and the opcode
abbrev pub format_s : ℕ → ℕ → ℕ → ℕ → ℕ → ℕ
format_s opcode funct3 rs1 rs2 imm =
    opcode + field 0 5 imm * 2 ^ 7 + funct3 * 2 ^ 12 + rs1 * 2 ^ 15 + rs2 * 2 ^ 20 + field 5 7 imm * 2 ^ 25

-- imm[12|10:5], rs2, rs1, funct3, imm[4:1|11] and the opcode
abbrev pub format_b : ℕ → ℕ → ℕ → ℕ → ℕ → ℕ
format_b opcode funct3 rs1 rs2 imm =
    opcode + field 11 1 imm * 2 ^ 7 + field 1 4 imm * 2 ^ 8 + funct3 * 2 ^ 12 + rs1 * 2 ^ 15 + rs2 * 2 ^ 20
    + field 5 6 imm * 2 ^ 25 + field 12 1 imm * 2 ^ 31

-- imm[31:12], rd and the opcode
abbrev pub format_u : ℕ → ℕ → ℕ → ℕ
format_u opcode rd imm = opcode + rd * 2 ^ 7 + field 12 20 imm * 2 ^ 12

-- imm[20|10:1|11|19:12], rd and the opcode
abbrev pub format_j : ℕ → ℕ → ℕ → ℕ
format_j opcode rd imm =
    opcode + rd * 2 ^ 7 + field 12 8 imm * 2 ^ 12 + field 11 1 imm * 2 ^ 20 + field 1 10 imm * 2 ^ 21 + field 20 1 imm * 2 ^ 31

-- LW for funct3 010, LD for 011
abbrev pub load : ℕ → ℕ → ℕ → ℕ → ℕ
load funct3 rd rs1 imm = format_i 0b0000011 funct3 rd rs1 imm

-- SW for funct3 010, SD for 011
abbrev pub store : ℕ → ℕ → ℕ → ℕ → ℕ
store funct3 rs1 rs2 imm = format_s 0b0100011 funct3 rs1 rs2 imm

abbrev pub addi : ℕ → ℕ → ℕ → ℕ
addi rd rs1 imm = format_i 0b0010011 0b000 rd rs1 imm

abbrev pub addiw : ℕ → ℕ → ℕ → ℕ
addiw rd rs1 imm = format_i 0b0011011 0b000 rd rs1 imm

abbrev pub andi : ℕ → ℕ → ℕ → ℕ
andi rd rs1 imm = format_i 0b0010011 0b111 rd rs1 imm

-- a shift by an amount: bits 31:26 of the word are funct6
abbrev pub shift : ℕ → ℕ → ℕ → ℕ → ℕ → ℕ
shift funct3 funct6 rd rs1 amount = format_i 0b0010011 funct3 rd rs1 (funct6 * 2 ^ 6 + amount)

-- an operation on two registers
abbrev pub op : ℕ → ℕ → ℕ → ℕ → ℕ → ℕ
op funct3 funct7 rd rs1 rs2 = format_r 0b0110011 funct3 funct7 rd rs1 rs2

-- an operation on the low 32 bits of two registers
abbrev pub op_32 : ℕ → ℕ → ℕ → ℕ → ℕ → ℕ
op_32 funct3 funct7 rd rs1 rs2 = format_r 0b0111011 funct3 funct7 rd rs1 rs2

abbrev pub add : ℕ → ℕ → ℕ → ℕ
add rd rs1 rs2 = op 0b000 0b0000000 rd rs1 rs2

abbrev pub lui : ℕ → ℕ → ℕ
lui rd imm = format_u 0b0110111 rd imm

abbrev pub jal : ℕ → ℕ → ℕ
jal rd imm = format_j 0b1101111 rd imm

-- JALR with the immediate 0
abbrev pub jalr : ℕ → ℕ → ℕ
jalr rd rs1 = format_i 0b1100111 0b000 rd rs1 0

-- BEQ for funct3 000, BNE for 001
abbrev pub branch : ℕ → ℕ → ℕ → ℕ → ℕ
branch funct3 rs1 rs2 imm = format_b 0b1100011 funct3 rs1 rs2 imm

abbrev pub ebreak : ℕ
ebreak = 0x00100073
