-- What the decoder reads in the words that 16-bit forms stand for.
use Rattle.std.proofs.Common.{◌≡◌, ℕ, ◌+◌, ◌-◌, ◌*◌, ◌%◌, ◌^◌, ◌<◌, ◌≤◌, ◌⊎◌, ◌↔◌, true, false, Some, IsTrue, slice_get, refl, arith, inl, lit<}
use Rattle.std.proofs.lemmas.Bool.Decides.{nat_tests}
use Rattle.dt_alu.specs.declared.operations.AluOp.TheVariants.{Add, Sub, Sll, Xor, Srl, Sra, Or, And}
use Rattle.dt_alu.specs.declared.operations.Cond.TheVariants.{Eq, Ne}
use Rattle.dt_decode.specs.declared.instructions.Instr.{Instr}
use Rattle.dt_decode.specs.declared.instructions.Instr.TheVariants.{Lui, Jal, Jalr, Branch, Load, Store, AluImm, Alu, Ebreak}
use Rattle.dt_decode.specs.Fields.{field, opcode_of, rd_of, funct3_of, rs1_of, rs2_of, funct7_of, imm_i, imm_s, imm_b, imm_u, imm_j}
use Rattle.dt_decode.specs.Forms.{read}
use Rattle.dt_decode.specs.Meaning.{IsMeaning}
use Rattle.dt_decode.specs.Rows.{Row, fits}
use Rattle.dt_decode.specs.Table.{instr_of, table}
use Rattle.dt_rvc.specs.Words.{format_r, format_i, format_s, format_b, format_u, format_j, load, store, addi, addiw, andi, shift, op, op_32, lui, jal, jalr, branch, ebreak}

-- the decoder's law: a word means what a row that it fits says
abbrev pub Law : Type 0
Law = (bits : ℕ) (instr : Instr) → (instr_of bits ≡ Some instr) ↔ IsMeaning bits instr

by_row : Law → (word place : ℕ) (r : Row) (instr : Instr) → slice_get table place ≡ Some r → IsTrue (fits r.fixed word) → instr ≡ read r.form word → instr_of word ≡ Some instr
by_row law word place r instr e f i = (law word instr).1 (record { place = place; row = r; listed = e; fit = f; is = i })

-- an immediate that k bits hold with its sign
abbrev pub IsSigned : ℕ → ℕ → Type 0
IsSigned k imm = (imm < 2 ^ (k - 1)) ⊎ ((2 ^ 64 ≤ imm + 2 ^ (k - 1)) × (imm < 2 ^ 64))

-- the decoder reads these fields in a word
record ReadsR (word o f u d s t : ℕ) : Type 0 where
  opcode : opcode_of word ≡ o
  funct3 : funct3_of word ≡ f
  funct7 : funct7_of word ≡ u
  rd : rd_of word ≡ d
  rs1 : rs1_of word ≡ s
  rs2 : rs2_of word ≡ t

record ReadsI (word o f d s i : ℕ) : Type 0 where
  opcode : opcode_of word ≡ o
  funct3 : funct3_of word ≡ f
  rd : rd_of word ≡ d
  rs1 : rs1_of word ≡ s
  imm : imm_i word ≡ i

record ReadsShift (word o f u d s a : ℕ) : Type 0 where
  opcode : opcode_of word ≡ o
  funct3 : funct3_of word ≡ f
  funct6 : field 26 6 word ≡ u
  rd : rd_of word ≡ d
  rs1 : rs1_of word ≡ s
  amount : field 20 6 word ≡ a

record ReadsS (word o f s t i : ℕ) : Type 0 where
  opcode : opcode_of word ≡ o
  funct3 : funct3_of word ≡ f
  rs1 : rs1_of word ≡ s
  rs2 : rs2_of word ≡ t
  imm : imm_s word ≡ i

record ReadsB (word o f s t i : ℕ) : Type 0 where
  opcode : opcode_of word ≡ o
  funct3 : funct3_of word ≡ f
  rs1 : rs1_of word ≡ s
  rs2 : rs2_of word ≡ t
  imm : imm_b word ≡ i

record ReadsU (word o d i : ℕ) : Type 0 where
  opcode : opcode_of word ≡ o
  rd : rd_of word ≡ d
  imm : imm_u word ≡ i

record ReadsJ (word o d i : ℕ) : Type 0 where
  opcode : opcode_of word ≡ o
  rd : rd_of word ≡ d
  imm : imm_j word ≡ i

reads_r : (o f u d s t : ℕ) → o < 128 → f < 8 → u < 128 → d < 32 → s < 32 → t < 32 → ReadsR (format_r o f u d s t) o f u d s t
reads_r o f u d s t a b c e g h = record { opcode = omega arith; funct3 = omega arith; funct7 = omega arith; rd = omega arith; rs1 = omega arith; rs2 = omega arith }

reads_i : (o f d s imm : ℕ) → o < 128 → f < 8 → d < 32 → s < 32 → IsSigned 12 imm → ReadsI (format_i o f d s imm) o f d s imm
reads_i o f d s imm a b c e g = record { opcode = omega arith; funct3 = omega arith; rd = omega arith; rs1 = omega arith; imm = grind (arith, nat_tests) }

reads_shift : (o f u d s amount : ℕ) → o < 128 → f < 8 → u < 64 → d < 32 → s < 32 → amount < 64 → ReadsShift (format_i o f d s (u * 2 ^ 6 + amount)) o f u d s amount
reads_shift o f u d s amount a b c e g h = record { opcode = omega arith; funct3 = omega arith; funct6 = omega arith; rd = omega arith; rs1 = omega arith; amount = omega arith }

reads_s : (o f s t imm : ℕ) → o < 128 → f < 8 → s < 32 → t < 32 → IsSigned 12 imm → ReadsS (format_s o f s t imm) o f s t imm
reads_s o f s t imm a b c e g = record { opcode = omega arith; funct3 = omega arith; rs1 = omega arith; rs2 = omega arith; imm = grind (arith, nat_tests) }

reads_b : (o f s t imm : ℕ) → o < 128 → f < 8 → s < 32 → t < 32 → IsSigned 13 imm → imm % 2 ≡ 0 → ReadsB (format_b o f s t imm) o f s t imm
reads_b o f s t imm a b c e g h = record { opcode = omega arith; funct3 = omega arith; rs1 = omega arith; rs2 = omega arith; imm = grind (arith, nat_tests) }

reads_u : (o d imm : ℕ) → o < 128 → d < 32 → IsSigned 32 imm → imm % 2 ^ 12 ≡ 0 → ReadsU (format_u o d imm) o d imm
reads_u o d imm a b g h = record { opcode = omega arith; rd = omega arith; imm = grind (arith, nat_tests) }

reads_j : (o d imm : ℕ) → o < 128 → d < 32 → IsSigned 21 imm → imm % 2 ≡ 0 → ReadsJ (format_j o d imm) o d imm
reads_j o d imm a b g h = record { opcode = omega arith; rd = omega arith; imm = grind (arith, nat_tests) }

pub addi_means : Law → (d s imm : ℕ) → d < 32 → s < 32 → IsSigned 12 imm → instr_of (addi d s imm) ≡ Some (AluImm Add false d s imm)
addi_means law d s imm p q g =
    let h : ReadsI (addi d s imm) 0b0010011 0b000 d s imm = reads_i 0b0010011 0b000 d s imm (lit< tt) (lit< tt) p q g in
    by_row law _ 21 _ _ refl (grind (arith, nat_tests)) cc

pub andi_means : Law → (d s imm : ℕ) → d < 32 → s < 32 → IsSigned 12 imm → instr_of (andi d s imm) ≡ Some (AluImm And false d s imm)
andi_means law d s imm p q g =
    let h : ReadsI (andi d s imm) 0b0010011 0b111 d s imm = reads_i 0b0010011 0b111 d s imm (lit< tt) (lit< tt) p q g in
    by_row law _ 26 _ _ refl (grind (arith, nat_tests)) cc

pub addiw_means : Law → (d s imm : ℕ) → d < 32 → s < 32 → IsSigned 12 imm → instr_of (addiw d s imm) ≡ Some (AluImm Add true d s imm)
addiw_means law d s imm p q g =
    let h : ReadsI (addiw d s imm) 0b0011011 0b000 d s imm = reads_i 0b0011011 0b000 d s imm (lit< tt) (lit< tt) p q g in
    by_row law _ 30 _ _ refl (grind (arith, nat_tests)) cc

pub lw_means : Law → (d s imm : ℕ) → d < 32 → s < 32 → IsSigned 12 imm → instr_of (load 0b010 d s imm) ≡ Some (Load 4 true d s imm)
lw_means law d s imm p q g =
    let h : ReadsI (load 0b010 d s imm) 0b0000011 0b010 d s imm = reads_i 0b0000011 0b010 d s imm (lit< tt) (lit< tt) p q g in
    by_row law _ 12 _ _ refl (grind (arith, nat_tests)) cc

pub ld_means : Law → (d s imm : ℕ) → d < 32 → s < 32 → IsSigned 12 imm → instr_of (load 0b011 d s imm) ≡ Some (Load 8 true d s imm)
ld_means law d s imm p q g =
    let h : ReadsI (load 0b011 d s imm) 0b0000011 0b011 d s imm = reads_i 0b0000011 0b011 d s imm (lit< tt) (lit< tt) p q g in
    by_row law _ 13 _ _ refl (grind (arith, nat_tests)) cc

pub slli_means : Law → (d s amount : ℕ) → d < 32 → s < 32 → amount < 64 → instr_of (shift 0b001 0b000000 d s amount) ≡ Some (AluImm Sll false d s amount)
slli_means law d s amount p q g =
    let h : ReadsShift (shift 0b001 0b000000 d s amount) 0b0010011 0b001 0b000000 d s amount = reads_shift 0b0010011 0b001 0b000000 d s amount (lit< tt) (lit< tt) (lit< tt) p q g in
    by_row law _ 27 _ _ refl (grind (arith, nat_tests)) cc

pub srli_means : Law → (d s amount : ℕ) → d < 32 → s < 32 → amount < 64 → instr_of (shift 0b101 0b000000 d s amount) ≡ Some (AluImm Srl false d s amount)
srli_means law d s amount p q g =
    let h : ReadsShift (shift 0b101 0b000000 d s amount) 0b0010011 0b101 0b000000 d s amount = reads_shift 0b0010011 0b101 0b000000 d s amount (lit< tt) (lit< tt) (lit< tt) p q g in
    by_row law _ 28 _ _ refl (grind (arith, nat_tests)) cc

pub srai_means : Law → (d s amount : ℕ) → d < 32 → s < 32 → amount < 64 → instr_of (shift 0b101 0b010000 d s amount) ≡ Some (AluImm Sra false d s amount)
srai_means law d s amount p q g =
    let h : ReadsShift (shift 0b101 0b010000 d s amount) 0b0010011 0b101 0b010000 d s amount = reads_shift 0b0010011 0b101 0b010000 d s amount (lit< tt) (lit< tt) (lit< tt) p q g in
    by_row law _ 29 _ _ refl (grind (arith, nat_tests)) cc

pub add_means : Law → (d s t : ℕ) → d < 32 → s < 32 → t < 32 → instr_of (op 0b000 0b0000000 d s t) ≡ Some (Alu Add false d s t)
add_means law d s t p q k =
    let h : ReadsR (op 0b000 0b0000000 d s t) 0b0110011 0b000 0b0000000 d s t = reads_r 0b0110011 0b000 0b0000000 d s t (lit< tt) (lit< tt) (lit< tt) p q k in
    by_row law _ 34 _ _ refl (grind (arith, nat_tests)) cc

pub xor_means : Law → (d s t : ℕ) → d < 32 → s < 32 → t < 32 → instr_of (op 0b100 0b0000000 d s t) ≡ Some (Alu Xor false d s t)
xor_means law d s t p q k =
    let h : ReadsR (op 0b100 0b0000000 d s t) 0b0110011 0b100 0b0000000 d s t = reads_r 0b0110011 0b100 0b0000000 d s t (lit< tt) (lit< tt) (lit< tt) p q k in
    by_row law _ 38 _ _ refl (grind (arith, nat_tests)) cc

pub or_means : Law → (d s t : ℕ) → d < 32 → s < 32 → t < 32 → instr_of (op 0b110 0b0000000 d s t) ≡ Some (Alu Or false d s t)
or_means law d s t p q k =
    let h : ReadsR (op 0b110 0b0000000 d s t) 0b0110011 0b110 0b0000000 d s t = reads_r 0b0110011 0b110 0b0000000 d s t (lit< tt) (lit< tt) (lit< tt) p q k in
    by_row law _ 40 _ _ refl (grind (arith, nat_tests)) cc

pub and_means : Law → (d s t : ℕ) → d < 32 → s < 32 → t < 32 → instr_of (op 0b111 0b0000000 d s t) ≡ Some (Alu And false d s t)
and_means law d s t p q k =
    let h : ReadsR (op 0b111 0b0000000 d s t) 0b0110011 0b111 0b0000000 d s t = reads_r 0b0110011 0b111 0b0000000 d s t (lit< tt) (lit< tt) (lit< tt) p q k in
    by_row law _ 41 _ _ refl (grind (arith, nat_tests)) cc

pub sub_means : Law → (d s t : ℕ) → d < 32 → s < 32 → t < 32 → instr_of (op 0b000 0b0100000 d s t) ≡ Some (Alu Sub false d s t)
sub_means law d s t p q k =
    let h : ReadsR (op 0b000 0b0100000 d s t) 0b0110011 0b000 0b0100000 d s t = reads_r 0b0110011 0b000 0b0100000 d s t (lit< tt) (lit< tt) (lit< tt) p q k in
    by_row law _ 42 _ _ refl (grind (arith, nat_tests)) cc

pub addw_means : Law → (d s t : ℕ) → d < 32 → s < 32 → t < 32 → instr_of (op_32 0b000 0b0000000 d s t) ≡ Some (Alu Add true d s t)
addw_means law d s t p q k =
    let h : ReadsR (op_32 0b000 0b0000000 d s t) 0b0111011 0b000 0b0000000 d s t = reads_r 0b0111011 0b000 0b0000000 d s t (lit< tt) (lit< tt) (lit< tt) p q k in
    by_row law _ 52 _ _ refl (grind (arith, nat_tests)) cc

pub subw_means : Law → (d s t : ℕ) → d < 32 → s < 32 → t < 32 → instr_of (op_32 0b000 0b0100000 d s t) ≡ Some (Alu Sub true d s t)
subw_means law d s t p q k =
    let h : ReadsR (op_32 0b000 0b0100000 d s t) 0b0111011 0b000 0b0100000 d s t = reads_r 0b0111011 0b000 0b0100000 d s t (lit< tt) (lit< tt) (lit< tt) p q k in
    by_row law _ 55 _ _ refl (grind (arith, nat_tests)) cc

pub sw_means : Law → (s t imm : ℕ) → s < 32 → t < 32 → IsSigned 12 imm → instr_of (store 0b010 s t imm) ≡ Some (Store 4 s t imm)
sw_means law s t imm p q g =
    let h : ReadsS (store 0b010 s t imm) 0b0100011 0b010 s t imm = reads_s 0b0100011 0b010 s t imm (lit< tt) (lit< tt) p q g in
    by_row law _ 19 _ _ refl (grind (arith, nat_tests)) cc

pub sd_means : Law → (s t imm : ℕ) → s < 32 → t < 32 → IsSigned 12 imm → instr_of (store 0b011 s t imm) ≡ Some (Store 8 s t imm)
sd_means law s t imm p q g =
    let h : ReadsS (store 0b011 s t imm) 0b0100011 0b011 s t imm = reads_s 0b0100011 0b011 s t imm (lit< tt) (lit< tt) p q g in
    by_row law _ 20 _ _ refl (grind (arith, nat_tests)) cc

pub beq_means : Law → (s t imm : ℕ) → s < 32 → t < 32 → IsSigned 13 imm → imm % 2 ≡ 0 → instr_of (branch 0b000 s t imm) ≡ Some (Branch Eq s t imm)
beq_means law s t imm p q g e =
    let h : ReadsB (branch 0b000 s t imm) 0b1100011 0b000 s t imm = reads_b 0b1100011 0b000 s t imm (lit< tt) (lit< tt) p q g e in
    by_row law _ 4 _ _ refl (grind (arith, nat_tests)) cc

pub bne_means : Law → (s t imm : ℕ) → s < 32 → t < 32 → IsSigned 13 imm → imm % 2 ≡ 0 → instr_of (branch 0b001 s t imm) ≡ Some (Branch Ne s t imm)
bne_means law s t imm p q g e =
    let h : ReadsB (branch 0b001 s t imm) 0b1100011 0b001 s t imm = reads_b 0b1100011 0b001 s t imm (lit< tt) (lit< tt) p q g e in
    by_row law _ 5 _ _ refl (grind (arith, nat_tests)) cc

pub lui_means : Law → (d imm : ℕ) → d < 32 → IsSigned 32 imm → imm % 2 ^ 12 ≡ 0 → instr_of (lui d imm) ≡ Some (Lui d imm)
lui_means law d imm p g e =
    let h : ReadsU (lui d imm) 0b0110111 d imm = reads_u 0b0110111 d imm (lit< tt) p g e in
    by_row law _ 0 _ _ refl (grind (arith, nat_tests)) cc

pub jal_means : Law → (d imm : ℕ) → d < 32 → IsSigned 21 imm → imm % 2 ≡ 0 → instr_of (jal d imm) ≡ Some (Jal d imm)
jal_means law d imm p g e =
    let h : ReadsJ (jal d imm) 0b1101111 d imm = reads_j 0b1101111 d imm (lit< tt) p g e in
    by_row law _ 2 _ _ refl (grind (arith, nat_tests)) cc

pub jalr_means : Law → (d s : ℕ) → d < 32 → s < 32 → instr_of (jalr d s) ≡ Some (Jalr d s 0)
jalr_means law d s p q =
    let h : ReadsI (jalr d s) 0b1100111 0b000 d s 0 = reads_i 0b1100111 0b000 d s 0 (lit< tt) (lit< tt) p q (inl (lit< tt)) in
    by_row law _ 3 _ _ refl (grind (arith, nat_tests)) cc

pub ebreak_means : Law → instr_of ebreak ≡ Some Ebreak
ebreak_means law = by_row law ebreak 87 _ _ refl refl refl
