-- What a row of the instruction table does, and how its operands are read from a word (The RISC-V Instruction
-- Set Manual, Volume I, sections 2.2 and 2.3).
use Rattle.std.specs.Prelude.{ℕ, Bool, true, false}
use Rattle.dt_alu.specs.declared.operations.AluOp.{AluOp}
use Rattle.dt_alu.specs.declared.operations.AmoOp.{AmoOp}
use Rattle.dt_alu.specs.declared.operations.Cond.{Cond}
use Rattle.dt_decode.specs.declared.instructions.CsrOp.{CsrOp}
use Rattle.dt_decode.specs.declared.instructions.Instr.{Instr}
use Rattle.dt_decode.specs.declared.instructions.Instr.TheVariants.{Lui, Auipc, Jal, Jalr, Branch, Load, Store, AluImm, Alu, Fence, FenceI, Lr, Sc, Amo, Csr, SfenceVma}
use Rattle.dt_decode.specs.Fields.{field, flag, rd_of, rs1_of, rs2_of, imm_i, imm_s, imm_b, imm_u, imm_j}

-- What each format reads of a word.

-- rd, rs1 and rs2
abbrev pub format_r : (ℕ → ℕ → ℕ → Instr) → ℕ → Instr
format_r make bits = make (rd_of bits) (rs1_of bits) (rs2_of bits)

-- rd, rs1 and the immediate I
abbrev pub format_i : (ℕ → ℕ → ℕ → Instr) → ℕ → Instr
format_i make bits = make (rd_of bits) (rs1_of bits) (imm_i bits)

-- rs1, rs2 and the immediate S
abbrev pub format_s : (ℕ → ℕ → ℕ → Instr) → ℕ → Instr
format_s make bits = make (rs1_of bits) (rs2_of bits) (imm_s bits)

-- rs1, rs2 and the immediate B
abbrev pub format_b : (ℕ → ℕ → ℕ → Instr) → ℕ → Instr
format_b make bits = make (rs1_of bits) (rs2_of bits) (imm_b bits)

-- rd and the immediate U
abbrev pub format_u : (ℕ → ℕ → Instr) → ℕ → Instr
format_u make bits = make (rd_of bits) (imm_u bits)

-- rd and the immediate J
abbrev pub format_j : (ℕ → ℕ → Instr) → ℕ → Instr
format_j make bits = make (rd_of bits) (imm_j bits)

-- what a row of the table does; widths are in bytes
pub data Form : Type 0 where
  UpperImmediate : Form
  UpperToPc : Form
  JumpAndLink : Form
  JumpRegister : Form
  BranchIf : Cond → Form
  LoadOf : ℕ → Bool → Form
  StoreOf : ℕ → Form
  WithImmediate : AluOp → Bool → Form
  ByAmount : AluOp → Bool → Form
  WithRegister : AluOp → Bool → Form
  MemoryFence : Form
  InstructionFence : Form
  Reserve : ℕ → Form
  Conditional : ℕ → Form
  Atomic : AmoOp → ℕ → Form
  CsrOf : CsrOp → Bool → Form
  Plain : Instr → Form
  TranslationFence : Form

-- the bits of a shift's amount: 24:20 of a W form, else 25:20
abbrev pub amount_of : Bool → ℕ → ℕ
amount_of true bits = field 20 5 bits
amount_of false bits = field 20 6 bits

-- the instruction of a row at a word, read by the row's format
abbrev pub read : Form → ℕ → Instr
read UpperImmediate bits = format_u Lui bits
read UpperToPc bits = format_u Auipc bits
read JumpAndLink bits = format_j Jal bits
read JumpRegister bits = format_i Jalr bits
read (BranchIf cond) bits = format_b (Branch cond) bits
read (LoadOf width signed) bits = format_i (Load width signed) bits
read (StoreOf width) bits = format_s (Store width) bits
read (WithImmediate op word) bits = format_i (AluImm op word) bits
read (ByAmount op word) bits = AluImm op word (rd_of bits) (rs1_of bits) (amount_of word bits)
read (WithRegister op word) bits = format_r (Alu op word) bits
read MemoryFence bits = Fence (field 28 4 bits) (field 24 4 bits) (field 20 4 bits)
read InstructionFence bits = FenceI
read (Reserve width) bits = Lr width (flag 26 bits) (flag 25 bits) (rd_of bits) (rs1_of bits)
read (Conditional width) bits = format_r (Sc width (flag 26 bits) (flag 25 bits)) bits
read (Atomic op width) bits = format_r (Amo op width (flag 26 bits) (flag 25 bits)) bits
read (CsrOf op immediate) bits = Csr op (field 20 12 bits) (rd_of bits) (rs1_of bits) immediate
read (Plain instr) bits = instr
read TranslationFence bits = SfenceVma (rs1_of bits) (rs2_of bits)
