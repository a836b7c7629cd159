use Rattle.std.specs.Prelude.{ℕ, ◌+◌, ◌-◌, ◌*◌, ◌/◌, ◌%◌, ◌^◌}

-- The formats of 32-bit instructions, each word made of its fields (The RISC-V Instruction Set Manual,
-- Volume I, 20191213, sections 2.2 and 2.3), and the instructions of the made images by their names
-- (chapter 24, and Volume II, 20211203, chapter 8). An immediate is the number that its bits have, so
-- a negative one is taken from a power of two.

-- the numbers of bits 31 down: those of a negative immediate of so many bits
abbrev pub below_zero : ℕ → ℕ → ℕ
below_zero bits amount = 2 ^ bits - amount

abbrev pub register_form : ℕ → ℕ → ℕ → ℕ → ℕ → ℕ → ℕ
register_form funct7 rs2 rs1 funct3 rd opcode =
    funct7 * 2 ^ 25 + rs2 * 2 ^ 20 + rs1 * 2 ^ 15 + funct3 * 2 ^ 12 + rd * 2 ^ 7 + opcode

abbrev pub immediate_form : ℕ → ℕ → ℕ → ℕ → ℕ → ℕ
immediate_form imm rs1 funct3 rd opcode = imm * 2 ^ 20 + rs1 * 2 ^ 15 + funct3 * 2 ^ 12 + rd * 2 ^ 7 + opcode

abbrev pub store_form : ℕ → ℕ → ℕ → ℕ → ℕ → ℕ
store_form imm rs2 rs1 funct3 opcode = register_form (imm / 2 ^ 5) rs2 rs1 funct3 (imm % 2 ^ 5) opcode

-- imm[12|10:5] and imm[4:1|11]
abbrev pub branch_form : ℕ → ℕ → ℕ → ℕ → ℕ → ℕ
branch_form imm rs2 rs1 funct3 opcode =
    let high = imm / 2 ^ 12 * 2 ^ 6 + imm / 2 ^ 5 % 2 ^ 6 in
    let low = imm / 2 % 2 ^ 4 * 2 + imm / 2 ^ 11 % 2 in
    register_form high rs2 rs1 funct3 low opcode

abbrev pub upper_form : ℕ → ℕ → ℕ → ℕ
upper_form imm rd opcode = imm * 2 ^ 12 + rd * 2 ^ 7 + opcode

-- imm[20|10:1|11|19:12]
abbrev pub jump_form : ℕ → ℕ → ℕ → ℕ
jump_form imm rd opcode =
    let high = imm / 2 ^ 20 * 2 ^ 19 + imm / 2 % 2 ^ 10 * 2 ^ 9 in
    let low = imm / 2 ^ 11 % 2 * 2 ^ 8 + imm / 2 ^ 12 % 2 ^ 8 in
    upper_form (high + low) rd opcode

abbrev pub lui : ℕ → ℕ → ℕ
lui rd imm = upper_form imm rd 0x37

abbrev pub auipc : ℕ → ℕ → ℕ
auipc rd imm = upper_form imm rd 0x17

abbrev pub jal : ℕ → ℕ → ℕ
jal rd imm = jump_form imm rd 0x6f

abbrev pub bne : ℕ → ℕ → ℕ → ℕ
bne rs1 rs2 imm = branch_form imm rs2 rs1 1 0x63

abbrev pub ld : ℕ → ℕ → ℕ → ℕ
ld rd imm rs1 = immediate_form imm rs1 3 rd 0x03

abbrev pub sw : ℕ → ℕ → ℕ → ℕ
sw rs2 imm rs1 = store_form imm rs2 rs1 2 0x23

abbrev pub sd : ℕ → ℕ → ℕ → ℕ
sd rs2 imm rs1 = store_form imm rs2 rs1 3 0x23

abbrev pub addi : ℕ → ℕ → ℕ → ℕ
addi rd rs1 imm = immediate_form imm rs1 0 rd 0x13

abbrev pub slli : ℕ → ℕ → ℕ → ℕ
slli rd rs1 amount = immediate_form amount rs1 1 rd 0x13

abbrev pub srli : ℕ → ℕ → ℕ → ℕ
srli rd rs1 amount = immediate_form amount rs1 5 rd 0x13

-- an operation on two registers, by its funct7 and funct3
abbrev pub operation : ℕ → ℕ → ℕ → ℕ → ℕ → ℕ
operation funct7 funct3 rd rs1 rs2 = register_form funct7 rs2 rs1 funct3 rd 0x33

abbrev pub fence : ℕ → ℕ → ℕ
fence pred succ = immediate_form (pred * 2 ^ 4 + succ) 0 0 0 0x0f

-- an atomic by its funct5, aq and rl, and its width's funct3
abbrev pub atomic : ℕ → ℕ → ℕ → ℕ → ℕ → ℕ → ℕ
atomic funct5 ordered funct3 rd rs2 rs1 = register_form (funct5 * 2 ^ 2 + ordered) rs2 rs1 funct3 rd 0x2f

abbrev pub csrrw : ℕ → ℕ → ℕ → ℕ
csrrw rd number rs1 = immediate_form number rs1 1 rd 0x73

abbrev pub csrrs : ℕ → ℕ → ℕ → ℕ
csrrs rd number rs1 = immediate_form number rs1 2 rd 0x73

abbrev pub sfence_vma : ℕ → ℕ → ℕ
sfence_vma rs1 rs2 = register_form 9 rs2 rs1 0 0 0x73

abbrev pub mret : ℕ
mret = immediate_form 0x302 0 0 0 0x73
