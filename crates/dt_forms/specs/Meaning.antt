-- What 16-bit instructions mean (The RISC-V Instruction Set Manual, Volume I, chapter 16), in terms of decoded
-- instructions.
use Rattle.std.specs.Prelude.{ℕ, true, false, Option, Some, None, option_and_then}
use Rattle.dt_alu.specs.declared.operations.AluOp.TheVariants.{Add, Sub, Sll, Xor, Srl, Sra, Or, And}
use Rattle.dt_alu.specs.declared.operations.Cond.TheVariants.{Eq, Ne}
use Rattle.dt_decode.specs.declared.instructions.Instr.{Instr}
use Rattle.dt_decode.specs.declared.instructions.Instr.TheVariants.{Lui, Jal, Jalr, Branch, Load, Store, AluImm, Alu, Ebreak}
use Rattle.dt_rvc.specs.Fields.{rd_of, rs2_of, short_rd_of, short_rs1_of, imm_addi4spn, imm_word, imm_double, amount_of, imm_small, imm_addi16sp, imm_lui, imm_jump, imm_branch, imm_lwsp, imm_ldsp, imm_swsp, imm_sdsp}
use Rattle.dt_rvc.specs.Forms.{Form, Reserved, CAddi4spn, CLw, CLd, CSw, CSd, CAddi, CAddiw, CLi, CAddi16sp, CLui, CSrli, CSrai, CAndi, CSub, CXor, COr, CAnd, CSubw, CAddw, CJ, CBeqz, CBnez, CSlli, CLwsp, CLdsp, CJr, CMv, CEbreak, CJalr, CAdd, CSwsp, CSdsp}
use Rattle.dt_rvc.specs.Rows.{first_form}
use Rattle.dt_rvc.specs.Table.{table}

-- what a form means at a pattern
abbrev pub instr_of_form : Form → ℕ → Option Instr
instr_of_form Reserved half = None
instr_of_form CAddi4spn half = Some (AluImm Add false (short_rd_of half) 2 (imm_addi4spn half))
instr_of_form CLw half = Some (Load 4 true (short_rd_of half) (short_rs1_of half) (imm_word half))
instr_of_form CLd half = Some (Load 8 true (short_rd_of half) (short_rs1_of half) (imm_double half))
instr_of_form CSw half = Some (Store 4 (short_rs1_of half) (short_rd_of half) (imm_word half))
instr_of_form CSd half = Some (Store 8 (short_rs1_of half) (short_rd_of half) (imm_double half))
instr_of_form CAddi half = Some (AluImm Add false (rd_of half) (rd_of half) (imm_small half))
instr_of_form CAddiw half = Some (AluImm Add true (rd_of half) (rd_of half) (imm_small half))
instr_of_form CLi half = Some (AluImm Add false (rd_of half) 0 (imm_small half))
instr_of_form CAddi16sp half = Some (AluImm Add false 2 2 (imm_addi16sp half))
instr_of_form CLui half = Some (Lui (rd_of half) (imm_lui half))
instr_of_form CSrli half = Some (AluImm Srl false (short_rs1_of half) (short_rs1_of half) (amount_of half))
instr_of_form CSrai half = Some (AluImm Sra false (short_rs1_of half) (short_rs1_of half) (amount_of half))
instr_of_form CAndi half = Some (AluImm And false (short_rs1_of half) (short_rs1_of half) (imm_small half))
instr_of_form CSub half = Some (Alu Sub false (short_rs1_of half) (short_rs1_of half) (short_rd_of half))
instr_of_form CXor half = Some (Alu Xor false (short_rs1_of half) (short_rs1_of half) (short_rd_of half))
instr_of_form COr half = Some (Alu Or false (short_rs1_of half) (short_rs1_of half) (short_rd_of half))
instr_of_form CAnd half = Some (Alu And false (short_rs1_of half) (short_rs1_of half) (short_rd_of half))
instr_of_form CSubw half = Some (Alu Sub true (short_rs1_of half) (short_rs1_of half) (short_rd_of half))
instr_of_form CAddw half = Some (Alu Add true (short_rs1_of half) (short_rs1_of half) (short_rd_of half))
instr_of_form CJ half = Some (Jal 0 (imm_jump half))
instr_of_form CBeqz half = Some (Branch Eq (short_rs1_of half) 0 (imm_branch half))
instr_of_form CBnez half = Some (Branch Ne (short_rs1_of half) 0 (imm_branch half))
instr_of_form CSlli half = Some (AluImm Sll false (rd_of half) (rd_of half) (amount_of half))
instr_of_form CLwsp half = Some (Load 4 true (rd_of half) 2 (imm_lwsp half))
instr_of_form CLdsp half = Some (Load 8 true (rd_of half) 2 (imm_ldsp half))
instr_of_form CJr half = Some (Jalr 0 (rd_of half) 0)
instr_of_form CMv half = Some (Alu Add false (rd_of half) 0 (rs2_of half))
instr_of_form CEbreak half = Some Ebreak
instr_of_form CJalr half = Some (Jalr 1 (rd_of half) 0)
instr_of_form CAdd half = Some (Alu Add false (rd_of half) (rd_of half) (rs2_of half))
instr_of_form CSwsp half = Some (Store 4 2 (rs2_of half) (imm_swsp half))
instr_of_form CSdsp half = Some (Store 8 2 (rs2_of half) (imm_sdsp half))

-- what a 16-bit pattern means, if it means anything
abbrev pub compressed_instr : ℕ → Option Instr
compressed_instr half = option_and_then (λ f. instr_of_form f half) (first_form table half)
