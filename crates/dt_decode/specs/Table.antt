-- The table of the 32-bit instructions: RV64I, M, A, Zicsr and Zifencei, and the privileged instructions of the
-- machine and supervisor modes (The RISC-V Instruction Set Manual, Volume I, chapter 24, "RV32/64G Instruction Set
-- Listings", and Volume II, "RISC-V Privileged Instruction Set Listings").
use Rattle.std.specs.Prelude.{ℕ, true, false, List, [], ◌∷◌, ◌++◌, Option}
use Rattle.dt_alu.specs.declared.operations.AluOp.TheVariants.{Add, Sub, Sll, Slt, Sltu, Xor, Srl, Sra, Or, And, Mul, Mulh, Mulhsu, Mulhu, Div, Divu, Rem, Remu}
use Rattle.dt_alu.specs.declared.operations.AmoOp.TheVariants.{Swap, Add as AmoAdd, Xor as AmoXor, And as AmoAnd, Or as AmoOr, Min, Max, Minu, Maxu}
use Rattle.dt_alu.specs.declared.operations.Cond.TheVariants.{Eq, Ne, Lt, Ge, Ltu, Geu}
use Rattle.dt_decode.specs.declared.instructions.CsrOp.TheVariants.{Write, Set, Clear}
use Rattle.dt_decode.specs.declared.instructions.Instr.{Instr}
use Rattle.dt_decode.specs.declared.instructions.Instr.TheVariants.{Ecall, Ebreak, Sret, Mret, Wfi}
use Rattle.dt_decode.specs.Forms.{UpperImmediate, UpperToPc, JumpAndLink, JumpRegister, BranchIf, LoadOf, StoreOf, WithImmediate, ByAmount, WithRegister, MemoryFence, InstructionFence, Reserve, Conditional, Atomic, CsrOf, Plain, TranslationFence}
use Rattle.dt_decode.specs.Rows.{Row, instr_in, ◌⇒◌, opcode, rd, funct3, rs1, rs2, funct7, funct6, funct5}

-- LUI, AUIPC and JAL (Volume I, sections 2.4 and 2.5)
abbrev pub upper_rows : List Row
upper_rows =
    (opcode 0b0110111 ∷ [] ⇒ UpperImmediate)
    ∷ (opcode 0b0010111 ∷ [] ⇒ UpperToPc)
    ∷ (opcode 0b1101111 ∷ [] ⇒ JumpAndLink)
    ∷ []

-- JALR (Volume I, section 2.5)
abbrev pub jump_register_rows : List Row
jump_register_rows =
    (opcode 0b1100111 ∷ funct3 0b000 ∷ [] ⇒ JumpRegister)
    ∷ []

-- the conditional branches (Volume I, section 2.5)
abbrev pub branch_rows : List Row
branch_rows =
    (opcode 0b1100011 ∷ funct3 0b000 ∷ [] ⇒ BranchIf Eq)
    ∷ (opcode 0b1100011 ∷ funct3 0b001 ∷ [] ⇒ BranchIf Ne)
    ∷ (opcode 0b1100011 ∷ funct3 0b100 ∷ [] ⇒ BranchIf Lt)
    ∷ (opcode 0b1100011 ∷ funct3 0b101 ∷ [] ⇒ BranchIf Ge)
    ∷ (opcode 0b1100011 ∷ funct3 0b110 ∷ [] ⇒ BranchIf Ltu)
    ∷ (opcode 0b1100011 ∷ funct3 0b111 ∷ [] ⇒ BranchIf Geu)
    ∷ []

-- the loads, by width and whether they extend the sign (Volume I, sections 2.6 and 5.3)
abbrev pub load_rows : List Row
load_rows =
    (opcode 0b0000011 ∷ funct3 0b000 ∷ [] ⇒ LoadOf 1 true)
    ∷ (opcode 0b0000011 ∷ funct3 0b001 ∷ [] ⇒ LoadOf 2 true)
    ∷ (opcode 0b0000011 ∷ funct3 0b010 ∷ [] ⇒ LoadOf 4 true)
    ∷ (opcode 0b0000011 ∷ funct3 0b011 ∷ [] ⇒ LoadOf 8 true)
    ∷ (opcode 0b0000011 ∷ funct3 0b100 ∷ [] ⇒ LoadOf 1 false)
    ∷ (opcode 0b0000011 ∷ funct3 0b101 ∷ [] ⇒ LoadOf 2 false)
    ∷ (opcode 0b0000011 ∷ funct3 0b110 ∷ [] ⇒ LoadOf 4 false)
    ∷ []

-- the stores, by width (Volume I, sections 2.6 and 5.3)
abbrev pub store_rows : List Row
store_rows =
    (opcode 0b0100011 ∷ funct3 0b000 ∷ [] ⇒ StoreOf 1)
    ∷ (opcode 0b0100011 ∷ funct3 0b001 ∷ [] ⇒ StoreOf 2)
    ∷ (opcode 0b0100011 ∷ funct3 0b010 ∷ [] ⇒ StoreOf 4)
    ∷ (opcode 0b0100011 ∷ funct3 0b011 ∷ [] ⇒ StoreOf 8)
    ∷ []

-- the operations with an immediate of format I (Volume I, section 2.4)
abbrev pub computing_rows : List Row
computing_rows =
    (opcode 0b0010011 ∷ funct3 0b000 ∷ [] ⇒ WithImmediate Add false)
    ∷ (opcode 0b0010011 ∷ funct3 0b010 ∷ [] ⇒ WithImmediate Slt false)
    ∷ (opcode 0b0010011 ∷ funct3 0b011 ∷ [] ⇒ WithImmediate Sltu false)
    ∷ (opcode 0b0010011 ∷ funct3 0b100 ∷ [] ⇒ WithImmediate Xor false)
    ∷ (opcode 0b0010011 ∷ funct3 0b110 ∷ [] ⇒ WithImmediate Or false)
    ∷ (opcode 0b0010011 ∷ funct3 0b111 ∷ [] ⇒ WithImmediate And false)
    ∷ []

-- the shifts of 64 bits by an amount in bits 25:20 (Volume I, section 5.2)
abbrev pub shift_rows : List Row
shift_rows =
    (opcode 0b0010011 ∷ funct3 0b001 ∷ funct6 0b000000 ∷ [] ⇒ ByAmount Sll false)
    ∷ (opcode 0b0010011 ∷ funct3 0b101 ∷ funct6 0b000000 ∷ [] ⇒ ByAmount Srl false)
    ∷ (opcode 0b0010011 ∷ funct3 0b101 ∷ funct6 0b010000 ∷ [] ⇒ ByAmount Sra false)
    ∷ []

-- opcode OP-IMM
abbrev pub immediate_rows : List Row
immediate_rows = computing_rows ++ (shift_rows)

-- opcode OP-IMM-32: the W forms with an immediate or an amount in bits 24:20 (Volume I, section 5.2)
abbrev pub word_immediate_rows : List Row
word_immediate_rows =
    (opcode 0b0011011 ∷ funct3 0b000 ∷ [] ⇒ WithImmediate Add true)
    ∷ (opcode 0b0011011 ∷ funct3 0b001 ∷ funct7 0b0000000 ∷ [] ⇒ ByAmount Sll true)
    ∷ (opcode 0b0011011 ∷ funct3 0b101 ∷ funct7 0b0000000 ∷ [] ⇒ ByAmount Srl true)
    ∷ (opcode 0b0011011 ∷ funct3 0b101 ∷ funct7 0b0100000 ∷ [] ⇒ ByAmount Sra true)
    ∷ []

-- opcode OP (Volume I, sections 2.4, 7.1 and 7.2)
abbrev pub register_rows : List Row
register_rows =
    (opcode 0b0110011 ∷ funct3 0b000 ∷ funct7 0b0000000 ∷ [] ⇒ WithRegister Add false)
    ∷ (opcode 0b0110011 ∷ funct3 0b001 ∷ funct7 0b0000000 ∷ [] ⇒ WithRegister Sll false)
    ∷ (opcode 0b0110011 ∷ funct3 0b010 ∷ funct7 0b0000000 ∷ [] ⇒ WithRegister Slt false)
    ∷ (opcode 0b0110011 ∷ funct3 0b011 ∷ funct7 0b0000000 ∷ [] ⇒ WithRegister Sltu false)
    ∷ (opcode 0b0110011 ∷ funct3 0b100 ∷ funct7 0b0000000 ∷ [] ⇒ WithRegister Xor false)
    ∷ (opcode 0b0110011 ∷ funct3 0b101 ∷ funct7 0b0000000 ∷ [] ⇒ WithRegister Srl false)
    ∷ (opcode 0b0110011 ∷ funct3 0b110 ∷ funct7 0b0000000 ∷ [] ⇒ WithRegister Or false)
    ∷ (opcode 0b0110011 ∷ funct3 0b111 ∷ funct7 0b0000000 ∷ [] ⇒ WithRegister And false)
    ∷ (opcode 0b0110011 ∷ funct3 0b000 ∷ funct7 0b0100000 ∷ [] ⇒ WithRegister Sub false)
    ∷ (opcode 0b0110011 ∷ funct3 0b101 ∷ funct7 0b0100000 ∷ [] ⇒ WithRegister Sra false)
    ∷ (opcode 0b0110011 ∷ funct3 0b000 ∷ funct7 0b0000001 ∷ [] ⇒ WithRegister Mul false)
    ∷ (opcode 0b0110011 ∷ funct3 0b001 ∷ funct7 0b0000001 ∷ [] ⇒ WithRegister Mulh false)
    ∷ (opcode 0b0110011 ∷ funct3 0b010 ∷ funct7 0b0000001 ∷ [] ⇒ WithRegister Mulhsu false)
    ∷ (opcode 0b0110011 ∷ funct3 0b011 ∷ funct7 0b0000001 ∷ [] ⇒ WithRegister Mulhu false)
    ∷ (opcode 0b0110011 ∷ funct3 0b100 ∷ funct7 0b0000001 ∷ [] ⇒ WithRegister Div false)
    ∷ (opcode 0b0110011 ∷ funct3 0b101 ∷ funct7 0b0000001 ∷ [] ⇒ WithRegister Divu false)
    ∷ (opcode 0b0110011 ∷ funct3 0b110 ∷ funct7 0b0000001 ∷ [] ⇒ WithRegister Rem false)
    ∷ (opcode 0b0110011 ∷ funct3 0b111 ∷ funct7 0b0000001 ∷ [] ⇒ WithRegister Remu false)
    ∷ []

-- opcode OP-32: the W forms (Volume I, sections 5.2, 7.1 and 7.2)
abbrev pub word_register_rows : List Row
word_register_rows =
    (opcode 0b0111011 ∷ funct3 0b000 ∷ funct7 0b0000000 ∷ [] ⇒ WithRegister Add true)
    ∷ (opcode 0b0111011 ∷ funct3 0b001 ∷ funct7 0b0000000 ∷ [] ⇒ WithRegister Sll true)
    ∷ (opcode 0b0111011 ∷ funct3 0b101 ∷ funct7 0b0000000 ∷ [] ⇒ WithRegister Srl true)
    ∷ (opcode 0b0111011 ∷ funct3 0b000 ∷ funct7 0b0100000 ∷ [] ⇒ WithRegister Sub true)
    ∷ (opcode 0b0111011 ∷ funct3 0b101 ∷ funct7 0b0100000 ∷ [] ⇒ WithRegister Sra true)
    ∷ (opcode 0b0111011 ∷ funct3 0b000 ∷ funct7 0b0000001 ∷ [] ⇒ WithRegister Mul true)
    ∷ (opcode 0b0111011 ∷ funct3 0b100 ∷ funct7 0b0000001 ∷ [] ⇒ WithRegister Div true)
    ∷ (opcode 0b0111011 ∷ funct3 0b101 ∷ funct7 0b0000001 ∷ [] ⇒ WithRegister Divu true)
    ∷ (opcode 0b0111011 ∷ funct3 0b110 ∷ funct7 0b0000001 ∷ [] ⇒ WithRegister Rem true)
    ∷ (opcode 0b0111011 ∷ funct3 0b111 ∷ funct7 0b0000001 ∷ [] ⇒ WithRegister Remu true)
    ∷ []

-- FENCE, whose rd and rs1 are ignored and whose fm may be any, and FENCE.I, whose other fields are ignored (Volume I,
-- section 2.7 and chapter 3)
abbrev pub fence_rows : List Row
fence_rows =
    (opcode 0b0001111 ∷ funct3 0b000 ∷ [] ⇒ MemoryFence)
    ∷ (opcode 0b0001111 ∷ funct3 0b001 ∷ [] ⇒ InstructionFence)
    ∷ []

-- the atomic operations on `width` bytes, whose funct3 is `kind` (Volume I, section 8.4)
abbrev pub amo_rows_of : ℕ → ℕ → List Row
amo_rows_of kind width =
    (opcode 0b0101111 ∷ funct3 kind ∷ funct5 0b00001 ∷ [] ⇒ Atomic Swap width)
    ∷ (opcode 0b0101111 ∷ funct3 kind ∷ funct5 0b00000 ∷ [] ⇒ Atomic AmoAdd width)
    ∷ (opcode 0b0101111 ∷ funct3 kind ∷ funct5 0b00100 ∷ [] ⇒ Atomic AmoXor width)
    ∷ (opcode 0b0101111 ∷ funct3 kind ∷ funct5 0b01100 ∷ [] ⇒ Atomic AmoAnd width)
    ∷ (opcode 0b0101111 ∷ funct3 kind ∷ funct5 0b01000 ∷ [] ⇒ Atomic AmoOr width)
    ∷ (opcode 0b0101111 ∷ funct3 kind ∷ funct5 0b10000 ∷ [] ⇒ Atomic Min width)
    ∷ (opcode 0b0101111 ∷ funct3 kind ∷ funct5 0b10100 ∷ [] ⇒ Atomic Max width)
    ∷ (opcode 0b0101111 ∷ funct3 kind ∷ funct5 0b11000 ∷ [] ⇒ Atomic Minu width)
    ∷ (opcode 0b0101111 ∷ funct3 kind ∷ funct5 0b11100 ∷ [] ⇒ Atomic Maxu width)
    ∷ []

-- the atomic instructions on `width` bytes, whose funct3 is `kind` (Volume I, sections 8.2 and 8.4)
abbrev pub atomic_rows_of : ℕ → ℕ → List Row
atomic_rows_of kind width =
    (opcode 0b0101111 ∷ funct3 kind ∷ rs2 0b00000 ∷ funct5 0b00010 ∷ [] ⇒ Reserve width)
    ∷ (opcode 0b0101111 ∷ funct3 kind ∷ funct5 0b00011 ∷ [] ⇒ Conditional width)
    ∷ amo_rows_of kind width

-- opcode AMO
abbrev pub atomic_rows : List Row
atomic_rows = atomic_rows_of 0b010 4 ++ atomic_rows_of 0b011 8

-- the accesses to control and status registers (Volume I, section 9.1)
abbrev pub csr_rows : List Row
csr_rows =
    (opcode 0b1110011 ∷ funct3 0b001 ∷ [] ⇒ CsrOf Write false)
    ∷ (opcode 0b1110011 ∷ funct3 0b010 ∷ [] ⇒ CsrOf Set false)
    ∷ (opcode 0b1110011 ∷ funct3 0b011 ∷ [] ⇒ CsrOf Clear false)
    ∷ (opcode 0b1110011 ∷ funct3 0b101 ∷ [] ⇒ CsrOf Write true)
    ∷ (opcode 0b1110011 ∷ funct3 0b110 ∷ [] ⇒ CsrOf Set true)
    ∷ (opcode 0b1110011 ∷ funct3 0b111 ∷ [] ⇒ CsrOf Clear true)
    ∷ []

-- ECALL, EBREAK, SRET, MRET, WFI and SFENCE.VMA (Volume I, section 2.8, and Volume II, "Machine-Mode Privileged
-- Instructions" and "Supervisor Memory-Management Fence Instruction")
abbrev pub privileged_rows : List Row
privileged_rows =
    (opcode 0b1110011 ∷ rd 0 ∷ funct3 0b000 ∷ rs1 0 ∷ rs2 0b00000 ∷ funct7 0b0000000 ∷ [] ⇒ Plain Ecall)
    ∷ (opcode 0b1110011 ∷ rd 0 ∷ funct3 0b000 ∷ rs1 0 ∷ rs2 0b00001 ∷ funct7 0b0000000 ∷ [] ⇒ Plain Ebreak)
    ∷ (opcode 0b1110011 ∷ rd 0 ∷ funct3 0b000 ∷ rs1 0 ∷ rs2 0b00010 ∷ funct7 0b0001000 ∷ [] ⇒ Plain Sret)
    ∷ (opcode 0b1110011 ∷ rd 0 ∷ funct3 0b000 ∷ rs1 0 ∷ rs2 0b00010 ∷ funct7 0b0011000 ∷ [] ⇒ Plain Mret)
    ∷ (opcode 0b1110011 ∷ rd 0 ∷ funct3 0b000 ∷ rs1 0 ∷ rs2 0b00101 ∷ funct7 0b0001000 ∷ [] ⇒ Plain Wfi)
    ∷ (opcode 0b1110011 ∷ rd 0 ∷ funct3 0b000 ∷ funct7 0b0001001 ∷ [] ⇒ TranslationFence)
    ∷ []

-- opcode SYSTEM
abbrev pub system_rows : List Row
system_rows = privileged_rows ++ csr_rows

-- all rows
abbrev pub table : List Row
table =
    upper_rows
    ++ (jump_register_rows
    ++ (branch_rows
    ++ (load_rows
    ++ (store_rows
    ++ (immediate_rows
    ++ (word_immediate_rows
    ++ (register_rows
    ++ (word_register_rows
    ++ (fence_rows
    ++ (atomic_rows
    ++ system_rows))))))))))

-- what a word means: the instruction of the row that it fits, if there is one
unfoldable pub instr_of : ℕ → Option Instr
instr_of bits = instr_in table bits
