-- The instructions that decoding gives: what the parts of an instruction may be.
use Rattle.std.specs.Prelude.{ℕ, ◌<◌, Bool, true, false, IsTrue, if◌then◌else◌}
use Rattle.dt_alu.specs.declared.operations.AluOp.{AluOp}
use Rattle.dt_alu.specs.declared.operations.AluOp.TheVariants.{Add, Sub, Sll, Slt, Sltu, Xor, Srl, Sra, Or, And, Mul, Mulh, Mulhsu, Mulhu, Div, Divu, Rem, Remu}
use Rattle.dt_alu.specs.Alu.{has_word_form}
use Rattle.dt_alu.specs.Amo.{IsAmoWidth}
use Rattle.dt_alu.specs.Extend.{IsAccessWidth}
use Rattle.dt_decode.specs.declared.instructions.Instr.{Instr}
use Rattle.dt_decode.specs.declared.instructions.Instr.TheVariants.{Lui, Auipc, Jal, Jalr, Branch, Load, Store, AluImm, Alu, Fence, FenceI, Lr, Sc, Amo, Csr, Ecall, Ebreak, Sret, Mret, Wfi, SfenceVma}

-- the operations whose immediate is an amount (Volume I, sections 2.4 and 5.2)
abbrev pub is_shift : AluOp → Bool
is_shift Add = false
is_shift Sub = false
is_shift Sll = true
is_shift Slt = false
is_shift Sltu = false
is_shift Xor = false
is_shift Srl = true
is_shift Sra = true
is_shift Or = false
is_shift And = false
is_shift Mul = false
is_shift Mulh = false
is_shift Mulhsu = false
is_shift Mulhu = false
is_shift Div = false
is_shift Divu = false
is_shift Rem = false
is_shift Remu = false

-- one of x0 to x31
abbrev pub IsRegister : ℕ → Type 0
IsRegister r = r < 32

-- `word` is set only where the operation has a form on words
abbrev pub MayBeWord : AluOp → Bool → Type 0
MayBeWord op word = IsTrue word → IsTrue (has_word_form op)

-- a shift of 64 bits goes by less than 64, and one of 32 bits by less than 32
abbrev pub IsAmountFor : AluOp → Bool → ℕ → Type 0
IsAmountFor op word imm = IsTrue (is_shift op) → imm < (if word then 32 else 64)

-- what holds of each instruction that decoding gives
abbrev pub IsDecoded : Instr → Type 0
IsDecoded (Lui rd imm) = IsRegister rd
IsDecoded (Auipc rd imm) = IsRegister rd
IsDecoded (Jal rd imm) = IsRegister rd
IsDecoded (Jalr rd rs1 imm) = IsRegister rd × IsRegister rs1
IsDecoded (Branch cond rs1 rs2 imm) = IsRegister rs1 × IsRegister rs2
IsDecoded (Load width signed rd rs1 imm) = IsAccessWidth width × IsRegister rd × IsRegister rs1
IsDecoded (Store width rs1 rs2 imm) = IsAccessWidth width × IsRegister rs1 × IsRegister rs2
IsDecoded (AluImm op word rd rs1 imm) = MayBeWord op word × IsAmountFor op word imm × IsRegister rd × IsRegister rs1
IsDecoded (Alu op word rd rs1 rs2) = MayBeWord op word × IsRegister rd × IsRegister rs1 × IsRegister rs2
IsDecoded (Fence fm pred succ) = (fm < 16) × (pred < 16) × (succ < 16)
IsDecoded FenceI = Unit {0}
IsDecoded (Lr width aq rl rd rs1) = IsAmoWidth width × IsRegister rd × IsRegister rs1
IsDecoded (Sc width aq rl rd rs1 rs2) = IsAmoWidth width × IsRegister rd × IsRegister rs1 × IsRegister rs2
IsDecoded (Amo op width aq rl rd rs1 rs2) = IsAmoWidth width × IsRegister rd × IsRegister rs1 × IsRegister rs2
IsDecoded (Csr op number rd source immediate) = (number < 4096) × IsRegister rd × IsRegister source
IsDecoded Ecall = Unit {0}
IsDecoded Ebreak = Unit {0}
IsDecoded Sret = Unit {0}
IsDecoded Mret = Unit {0}
IsDecoded Wfi = Unit {0}
IsDecoded (SfenceVma rs1 rs2) = IsRegister rs1 × IsRegister rs2
