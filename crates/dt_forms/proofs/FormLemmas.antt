-- Each 16-bit form means what the decoder reads in its 32-bit word.
use Rattle.std.proofs.Common.{◌≡◌, ℕ, ◌+◌, ◌*◌, ◌%◌, ◌^◌, ◌<◌, Option, Some, None, IsSome, option_and_then, refl, ap, sym, ◌∙◌, arith, inl, lit<}
use Rattle.std.proofs.lemmas.Bool.Decides.{nat_tests}
use Rattle.dt_decode.specs.Table.{instr_of}
use Rattle.dt_forms.specs.Meaning.{instr_of_form, compressed_instr}
use Rattle.dt_rvc.specs.Fields.{field, sign_extended, rd_of, rs2_of, short_rd_of, short_rs1_of, imm_addi4spn, imm_word, imm_double, amount_of, imm_small, imm_addi16sp, imm_lui, imm_jump, imm_branch, imm_lwsp, imm_ldsp, imm_swsp, imm_sdsp}
use Rattle.dt_rvc.specs.Forms.{Form, Reserved, CAddi4spn, CLw, CLd, CSw, CSd, CAddi, CAddiw, CLi, CAddi16sp, CLui, CSrli, CSrai, CAndi, CSub, CXor, COr, CAnd, CSubw, CAddw, CJ, CBeqz, CBnez, CSlli, CLwsp, CLdsp, CJr, CMv, CEbreak, CJalr, CAdd, CSwsp, CSdsp, word_of}
use Rattle.dt_rvc.specs.Rows.{first_form}
use Rattle.dt_rvc.specs.Table.{table, expansion}
use Rattle.dt_forms.proofs.WordLemmas.{Law, IsSigned, addi_means, andi_means, addiw_means, lw_means, ld_means, slli_means, srli_means, srai_means, add_means, xor_means, or_means, and_means, sub_means, addw_means, subw_means, sw_means, sd_means, beq_means, bne_means, lui_means, jal_means, jalr_means, ebreak_means}

signed_6 : (raw : ℕ) → raw < 2 ^ 6 → IsSigned 12 (sign_extended 6 raw)
signed_6 raw h = grind (arith, nat_tests)

signed_10 : (raw : ℕ) → raw < 2 ^ 10 → IsSigned 12 (sign_extended 10 raw)
signed_10 raw h = grind (arith, nat_tests)

signed_18 : (raw : ℕ) → raw < 2 ^ 18 → IsSigned 32 (sign_extended 18 raw)
signed_18 raw h = grind (arith, nat_tests)

signed_12 : (raw : ℕ) → raw < 2 ^ 12 → IsSigned 21 (sign_extended 12 raw)
signed_12 raw h = grind (arith, nat_tests)

signed_9 : (raw : ℕ) → raw < 2 ^ 9 → IsSigned 13 (sign_extended 9 raw)
signed_9 raw h = grind (arith, nat_tests)

whole_pages : (raw : ℕ) → raw % 2 ^ 12 ≡ 0 → sign_extended 18 raw % 2 ^ 12 ≡ 0
whole_pages raw h = grind (arith, nat_tests)

even_12 : (raw : ℕ) → raw % 2 ≡ 0 → sign_extended 12 raw % 2 ≡ 0
even_12 raw h = grind (arith, nat_tests)

even_9 : (raw : ℕ) → raw % 2 ≡ 0 → sign_extended 9 raw % 2 ≡ 0
even_9 raw h = grind (arith, nat_tests)

small_signed : (half : ℕ) → IsSigned 12 (imm_small half)
small_signed half = signed_6 (amount_of half) (omega arith)

step_signed : (half : ℕ) → IsSigned 12 (imm_addi16sp half)
step_signed half = signed_10 (field 12 1 half * 2 ^ 9 + field 6 1 half * 2 ^ 4 + field 5 1 half * 2 ^ 6 + field 3 2 half * 2 ^ 7 + field 2 1 half * 2 ^ 5) (omega arith)

upper_signed : (half : ℕ) → IsSigned 32 (imm_lui half)
upper_signed half = signed_18 (field 12 1 half * 2 ^ 17 + field 2 5 half * 2 ^ 12) (omega arith)

upper_whole : (half : ℕ) → imm_lui half % 2 ^ 12 ≡ 0
upper_whole half = whole_pages (field 12 1 half * 2 ^ 17 + field 2 5 half * 2 ^ 12) (omega arith)

abbrev jump_raw : ℕ → ℕ
jump_raw half = field 12 1 half * 2 ^ 11 + field 11 1 half * 2 ^ 4 + field 9 2 half * 2 ^ 8 + field 8 1 half * 2 ^ 10 + field 7 1 half * 2 ^ 6 + field 6 1 half * 2 ^ 7 + field 3 3 half * 2 ^ 1 + field 2 1 half * 2 ^ 5

jump_signed : (half : ℕ) → IsSigned 21 (imm_jump half)
jump_signed half = signed_12 (jump_raw half) (omega arith)

jump_even : (half : ℕ) → imm_jump half % 2 ≡ 0
jump_even half = even_12 (jump_raw half) (omega arith)

abbrev branch_raw : ℕ → ℕ
branch_raw half = field 12 1 half * 2 ^ 8 + field 10 2 half * 2 ^ 3 + field 5 2 half * 2 ^ 6 + field 3 2 half * 2 ^ 1 + field 2 1 half * 2 ^ 5

branch_signed : (half : ℕ) → IsSigned 13 (imm_branch half)
branch_signed half = signed_9 (branch_raw half) (omega arith)

branch_even : (half : ℕ) → imm_branch half % 2 ≡ 0
branch_even half = even_9 (branch_raw half) (omega arith)

form_means : Law → (f : Form) (half : ℕ) → option_and_then instr_of (word_of f half) ≡ instr_of_form f half
form_means law Reserved half = refl
form_means law CAddi4spn half = addi_means law (short_rd_of half) 2 (imm_addi4spn half) (omega arith) (lit< tt) (inl (omega arith))
form_means law CLw half = lw_means law (short_rd_of half) (short_rs1_of half) (imm_word half) (omega arith) (omega arith) (inl (omega arith))
form_means law CLd half = ld_means law (short_rd_of half) (short_rs1_of half) (imm_double half) (omega arith) (omega arith) (inl (omega arith))
form_means law CSw half = sw_means law (short_rs1_of half) (short_rd_of half) (imm_word half) (omega arith) (omega arith) (inl (omega arith))
form_means law CSd half = sd_means law (short_rs1_of half) (short_rd_of half) (imm_double half) (omega arith) (omega arith) (inl (omega arith))
form_means law CAddi half = addi_means law (rd_of half) (rd_of half) (imm_small half) (omega arith) (omega arith) (small_signed half)
form_means law CAddiw half = addiw_means law (rd_of half) (rd_of half) (imm_small half) (omega arith) (omega arith) (small_signed half)
form_means law CLi half = addi_means law (rd_of half) 0 (imm_small half) (omega arith) (lit< tt) (small_signed half)
form_means law CAddi16sp half = addi_means law 2 2 (imm_addi16sp half) (lit< tt) (lit< tt) (step_signed half)
form_means law CLui half = lui_means law (rd_of half) (imm_lui half) (omega arith) (upper_signed half) (upper_whole half)
form_means law CSrli half = srli_means law (short_rs1_of half) (short_rs1_of half) (amount_of half) (omega arith) (omega arith) (omega arith)
form_means law CSrai half = srai_means law (short_rs1_of half) (short_rs1_of half) (amount_of half) (omega arith) (omega arith) (omega arith)
form_means law CAndi half = andi_means law (short_rs1_of half) (short_rs1_of half) (imm_small half) (omega arith) (omega arith) (small_signed half)
form_means law CSub half = sub_means law (short_rs1_of half) (short_rs1_of half) (short_rd_of half) (omega arith) (omega arith) (omega arith)
form_means law CXor half = xor_means law (short_rs1_of half) (short_rs1_of half) (short_rd_of half) (omega arith) (omega arith) (omega arith)
form_means law COr half = or_means law (short_rs1_of half) (short_rs1_of half) (short_rd_of half) (omega arith) (omega arith) (omega arith)
form_means law CAnd half = and_means law (short_rs1_of half) (short_rs1_of half) (short_rd_of half) (omega arith) (omega arith) (omega arith)
form_means law CSubw half = subw_means law (short_rs1_of half) (short_rs1_of half) (short_rd_of half) (omega arith) (omega arith) (omega arith)
form_means law CAddw half = addw_means law (short_rs1_of half) (short_rs1_of half) (short_rd_of half) (omega arith) (omega arith) (omega arith)
form_means law CJ half = jal_means law 0 (imm_jump half) (lit< tt) (jump_signed half) (jump_even half)
form_means law CBeqz half = beq_means law (short_rs1_of half) 0 (imm_branch half) (omega arith) (lit< tt) (branch_signed half) (branch_even half)
form_means law CBnez half = bne_means law (short_rs1_of half) 0 (imm_branch half) (omega arith) (lit< tt) (branch_signed half) (branch_even half)
form_means law CSlli half = slli_means law (rd_of half) (rd_of half) (amount_of half) (omega arith) (omega arith) (omega arith)
form_means law CLwsp half = lw_means law (rd_of half) 2 (imm_lwsp half) (omega arith) (lit< tt) (inl (omega arith))
form_means law CLdsp half = ld_means law (rd_of half) 2 (imm_ldsp half) (omega arith) (lit< tt) (inl (omega arith))
form_means law CJr half = jalr_means law 0 (rd_of half) (lit< tt) (omega arith)
form_means law CMv half = add_means law (rd_of half) 0 (rs2_of half) (omega arith) (lit< tt) (omega arith)
form_means law CEbreak half = ebreak_means law
form_means law CJalr half = jalr_means law 1 (rd_of half) (lit< tt) (omega arith)
form_means law CAdd half = add_means law (rd_of half) (rd_of half) (rs2_of half) (omega arith) (omega arith) (omega arith)
form_means law CSwsp half = sw_means law 2 (rs2_of half) (imm_swsp half) (lit< tt) (omega arith) (inl (omega arith))
form_means law CSdsp half = sd_means law 2 (rs2_of half) (imm_sdsp half) (lit< tt) (omega arith) (inl (omega arith))

means_at : Law → (o : Option Form) (half : ℕ) → option_and_then instr_of (option_and_then (λ f. word_of f half) o) ≡ option_and_then (λ f. instr_of_form f half) o
means_at law None half = refl
means_at law (Some f) half = form_means law f half

pub pattern_means : Law → (half : ℕ) → option_and_then instr_of (expansion half) ≡ compressed_instr half
unfolding expansion
pattern_means law half = means_at law (first_form table half) half

-- a form that stands for a word means something
form_row : (f : Form) (half word : ℕ) → word_of f half ≡ Some word → IsSome (instr_of_form f half)
form_row Reserved half word e = cc
form_row _ half word e = refl

row_at : Law → (o : Option Form) (half word : ℕ) → option_and_then (λ f. word_of f half) o ≡ Some word → IsSome (instr_of word)
row_at law None half word e = cc
row_at law (Some f) half word e =
    let m : option_and_then instr_of (Some word) ≡ instr_of_form f half = ap (option_and_then instr_of) (sym e) ∙ form_means law f half in
    rw m (form_row f half word e)

pub pattern_row : Law → (half word : ℕ) → expansion half ≡ Some word → IsSome (instr_of word)
unfolding expansion
pattern_row law half word e = row_at law (first_form table half) half word e
