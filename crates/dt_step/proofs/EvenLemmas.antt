-- jumps and branches of the instruction table go an even number of bytes
use Rattle.std.proofs.Common.{◌≡◌, ℕ, ◌+◌, ◌-◌, ◌*◌, ◌%◌, ◌^◌, refl, arith, Bool, true, false, ◌&&◌, nat_lt, List, [], ◌∷◌, Some}
use Rattle.std.specs.Option.{IfSome, option_map}
use Rattle.std.proofs.lemmas.Bool.{cond_both, and_parts}
use Rattle.dt_decode.specs.declared.instructions.Instr.{Instr}
use Rattle.dt_decode.specs.declared.instructions.Instr.TheVariants.{Jal, Branch}
use Rattle.dt_decode.specs.Fields.{field, sign_extended, imm_b, imm_j}
use Rattle.dt_decode.specs.Forms.{Form, JumpAndLink, BranchIf, Plain, read}
use Rattle.dt_decode.specs.Rows.{Row, fits, first_form}
use Rattle.dt_decode.specs.Table.{table, instr_of}
use Rattle.dt_step.specs.Plans.{HasEvenTarget}

-- sign extension keeps a number even
extended_even : (width raw : ℕ) → raw % 2 ≡ 0 → (2 ^ 64 - 2 ^ width) % 2 ≡ 0 → sign_extended width raw % 2 ≡ 0
extended_even width raw even high =
    cond_both (nat_lt raw (2 ^ (width - 1))) raw (raw + (2 ^ 64 - 2 ^ width)) (λ n. n % 2 ≡ 0) (λ _. even) (λ _. omega arith)

imm_j-even : (bits : ℕ) → imm_j bits % 2 ≡ 0
imm_j-even bits =
    extended_even 21 (field 31 1 bits * 2 ^ 20 + field 12 8 bits * 2 ^ 12 + field 20 1 bits * 2 ^ 11 + field 21 10 bits * 2) (omega arith) refl

imm_b-even : (bits : ℕ) → imm_b bits % 2 ≡ 0
imm_b-even bits =
    extended_even 13 (field 31 1 bits * 2 ^ 12 + field 7 1 bits * 2 ^ 11 + field 25 6 bits * 2 ^ 5 + field 8 4 bits * 2) (omega arith) refl

-- a form that stands for no jump or branch of its own
abbrev stays_plain : Instr → Bool
stays_plain (Jal rd imm) = false
stays_plain (Branch cond rs1 rs2 imm) = false
stays_plain i = true

abbrev is_tame : Form → Bool
is_tame (Plain i) = stays_plain i
is_tame form = true

plain_even : (i : Instr) → stays_plain i ≡ true → HasEvenTarget i
plain_even (Jal rd imm) e = absurd (cc)
plain_even (Branch cond rs1 rs2 imm) e = absurd (cc)
plain_even i e = tt

read_even : (form : Form) (bits : ℕ) → is_tame form ≡ true → HasEvenTarget (read form bits)
read_even JumpAndLink bits e = imm_j-even bits
read_even (BranchIf cond) bits e = imm_b-even bits
read_even (Plain i) bits e = plain_even i e
read_even form bits e = tt

abbrev all_tame : List Row → Bool
all_tame [] = true
all_tame (row ∷ rows) = is_tame row.form && all_tame rows

first_even : (rows : List Row) (bits : ℕ) → all_tame rows ≡ true → IfSome (option_map (λ f. read f bits) (first_form rows bits)) HasEvenTarget
first_even [] bits e = tt
first_even (row ∷ rows) bits e =
    let parts = and_parts (is_tame row.form) (all_tame rows) e in
    cond_both (fits row.fixed bits) (Some row.form) (first_form rows bits) (λ o. IfSome (option_map (λ f. read f bits) o) HasEvenTarget)
    (λ _. read_even row.form bits parts.0)
    (λ _. first_even rows bits parts.1)

pub decoded_even : (bits : ℕ) → IfSome (instr_of bits) HasEvenTarget
unfolding instr_of
decoded_even bits = first_even table bits refl
