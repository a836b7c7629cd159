-- The 16-bit forms and the 32-bit instructions that they stand for (The RISC-V Instruction Set Manual, Volume I,
-- chapter 16). Hints stand for what their form says.
use Rattle.std.specs.Prelude.{ℕ, Option, Some, None}
use Rattle.dt_rvc.specs.Fields.{rd_of, rs2_of, short_rd_of, short_rs1_of, imm_addi4spn, imm_word, imm_double, amount_of, imm_small, imm_addi16sp, imm_lui, imm_jump, imm_branch, imm_lwsp, imm_ldsp, imm_swsp, imm_sdsp}
use Rattle.dt_rvc.specs.Words.{load, store, addi, addiw, andi, shift, op, op_32, add, lui, jal, jalr, branch, ebreak}

-- the forms, by the manual's names; `Reserved` stands for nothing
pub data Form : Type 0 where
  Reserved : Form
  CAddi4spn : Form
  CLw : Form
  CLd : Form
  CSw : Form
  CSd : Form
  CAddi : Form
  CAddiw : Form
  CLi : Form
  CAddi16sp : Form
  CLui : Form
  CSrli : Form
  CSrai : Form
  CAndi : Form
  CSub : Form
  CXor : Form
  COr : Form
  CAnd : Form
  CSubw : Form
  CAddw : Form
  CJ : Form
  CBeqz : Form
  CBnez : Form
  CSlli : Form
  CLwsp : Form
  CLdsp : Form
  CJr : Form
  CMv : Form
  CEbreak : Form
  CJalr : Form
  CAdd : Form
  CSwsp : Form
  CSdsp : Form

-- the 32-bit instruction of a form at a 16-bit pattern
abbrev pub word_of : Form → ℕ → Option ℕ
word_of Reserved half = None
word_of CAddi4spn half = Some (addi (short_rd_of half) 2 (imm_addi4spn half))
word_of CLw half = Some (load 0b010 (short_rd_of half) (short_rs1_of half) (imm_word half))
word_of CLd half = Some (load 0b011 (short_rd_of half) (short_rs1_of half) (imm_double half))
word_of CSw half = Some (store 0b010 (short_rs1_of half) (short_rd_of half) (imm_word half))
word_of CSd half = Some (store 0b011 (short_rs1_of half) (short_rd_of half) (imm_double half))
word_of CAddi half = Some (addi (rd_of half) (rd_of half) (imm_small half))
word_of CAddiw half = Some (addiw (rd_of half) (rd_of half) (imm_small half))
word_of CLi half = Some (addi (rd_of half) 0 (imm_small half))
word_of CAddi16sp half = Some (addi 2 2 (imm_addi16sp half))
word_of CLui half = Some (lui (rd_of half) (imm_lui half))
word_of CSrli half = Some (shift 0b101 0b000000 (short_rs1_of half) (short_rs1_of half) (amount_of half))
word_of CSrai half = Some (shift 0b101 0b010000 (short_rs1_of half) (short_rs1_of half) (amount_of half))
word_of CAndi half = Some (andi (short_rs1_of half) (short_rs1_of half) (imm_small half))
word_of CSub half = Some (op 0b000 0b0100000 (short_rs1_of half) (short_rs1_of half) (short_rd_of half))
word_of CXor half = Some (op 0b100 0b0000000 (short_rs1_of half) (short_rs1_of half) (short_rd_of half))
word_of COr half = Some (op 0b110 0b0000000 (short_rs1_of half) (short_rs1_of half) (short_rd_of half))
word_of CAnd half = Some (op 0b111 0b0000000 (short_rs1_of half) (short_rs1_of half) (short_rd_of half))
word_of CSubw half = Some (op_32 0b000 0b0100000 (short_rs1_of half) (short_rs1_of half) (short_rd_of half))
word_of CAddw half = Some (op_32 0b000 0b0000000 (short_rs1_of half) (short_rs1_of half) (short_rd_of half))
word_of CJ half = Some (jal 0 (imm_jump half))
word_of CBeqz half = Some (branch 0b000 (short_rs1_of half) 0 (imm_branch half))
word_of CBnez half = Some (branch 0b001 (short_rs1_of half) 0 (imm_branch half))
word_of CSlli half = Some (shift 0b001 0b000000 (rd_of half) (rd_of half) (amount_of half))
word_of CLwsp half = Some (load 0b010 (rd_of half) 2 (imm_lwsp half))
word_of CLdsp half = Some (load 0b011 (rd_of half) 2 (imm_ldsp half))
word_of CJr half = Some (jalr 0 (rd_of half))
word_of CMv half = Some (add (rd_of half) 0 (rs2_of half))
word_of CEbreak half = Some ebreak
word_of CJalr half = Some (jalr 1 (rd_of half))
word_of CAdd half = Some (add (rd_of half) (rd_of half) (rs2_of half))
word_of CSwsp half = Some (store 0b010 2 (rs2_of half) (imm_swsp half))
word_of CSdsp half = Some (store 0b011 2 (rs2_of half) (imm_sdsp half))
