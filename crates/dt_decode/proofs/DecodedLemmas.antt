-- What the table's rows give is well formed.
use Rattle.std.proofs.Common.{ℕ, Bool, true, false, not, cond, ◌&&◌, ◌||◌, ◌==◌, List, [], ◌∷◌, Option, Some, IfSome, IsTrue, option_map, refl, arith}
use Rattle.std.proofs.lemmas.Bool.Decides.{nat_tests}
use Rattle.dt_decode.specs.declared.instructions.Instr.{Instr}
use Rattle.dt_decode.specs.declared.instructions.Instr.TheVariants.{Ecall, Ebreak, Sret, Mret, Wfi}
use Rattle.dt_alu.specs.Alu.{has_word_form}
use Rattle.dt_alu.specs.Amo.{IsAmoWidth}
use Rattle.dt_alu.specs.Extend.{IsAccessWidth}
use Rattle.dt_decode.specs.Decoded.{IsDecoded, is_shift}
use Rattle.dt_decode.specs.Forms.{Form, UpperImmediate, UpperToPc, JumpAndLink, JumpRegister, BranchIf, LoadOf, StoreOf, WithImmediate, ByAmount, WithRegister, MemoryFence, InstructionFence, Reserve, Conditional, Atomic, CsrOf, Plain, TranslationFence, read}
use Rattle.dt_decode.specs.Rows.{Row, fits, first_form, instr_in}
use Rattle.dt_decode.specs.Table.{instr_of, table}

abbrev is_access_width : ℕ → Bool
is_access_width w = (w == 1) || ((w == 2) || ((w == 4) || (w == 8)))

abbrev is_atomic_width : ℕ → Bool
is_atomic_width w = (w == 4) || (w == 8)

abbrev has_no_operand : Instr → Bool
has_no_operand Ecall = true
has_no_operand Ebreak = true
has_no_operand Sret = true
has_no_operand Mret = true
has_no_operand Wfi = true
has_no_operand _ = false

-- whatever word a row of this form reads, it gives a well-formed instruction
abbrev is_sound : Form → Bool
is_sound (LoadOf width signed) = is_access_width width
is_sound (StoreOf width) = is_access_width width
is_sound (WithImmediate op word) = (not word || has_word_form op) && not (is_shift op)
is_sound (ByAmount op word) = not word || has_word_form op
is_sound (WithRegister op word) = not word || has_word_form op
is_sound (Reserve width) = is_atomic_width width
is_sound (Conditional width) = is_atomic_width width
is_sound (Atomic op width) = is_atomic_width width
is_sound (Plain instr) = has_no_operand instr
is_sound _ = true

abbrev all_sound : List Row → Bool
all_sound [] = true
all_sound (r ∷ rs) = is_sound r.form && all_sound rs

access_width : (w : ℕ) → IsTrue (is_access_width w) → IsAccessWidth w
access_width w h = grind (arith, nat_tests)

atomic_width : (w : ℕ) → IsTrue (is_atomic_width w) → IsAmoWidth w
atomic_width w h = grind (arith, nat_tests)

no_operand : (i : Instr) → IsTrue (has_no_operand i) → IsDecoded i
no_operand Ecall h = tt
no_operand Ebreak h = tt
no_operand Sret h = tt
no_operand Mret h = tt
no_operand Wfi h = tt
no_operand _ h = cc

decoded : (f : Form) (bits : ℕ) → IsTrue (is_sound f) → IsDecoded (read f bits)
decoded UpperImmediate bits h = omega arith
decoded UpperToPc bits h = omega arith
decoded JumpAndLink bits h = omega arith
decoded JumpRegister bits h = (omega arith, omega arith)
decoded (BranchIf cond) bits h = (omega arith, omega arith)
decoded (LoadOf width signed) bits h = (access_width width h, omega arith, omega arith)
decoded (StoreOf width) bits h = (access_width width h, omega arith, omega arith)
decoded (WithImmediate op word) bits h = (λ k. grind arith, λ k. grind arith, omega arith, omega arith)
decoded (ByAmount op true) bits h = (λ k. grind arith, λ k. omega arith, omega arith, omega arith)
decoded (ByAmount op false) bits h = (λ k. grind arith, λ k. omega arith, omega arith, omega arith)
decoded (WithRegister op word) bits h = (λ k. grind arith, omega arith, omega arith, omega arith)
decoded MemoryFence bits h = (omega arith, omega arith, omega arith)
decoded InstructionFence bits h = tt
decoded (Reserve width) bits h = (atomic_width width h, omega arith, omega arith)
decoded (Conditional width) bits h = (atomic_width width h, omega arith, omega arith, omega arith)
decoded (Atomic op width) bits h = (atomic_width width h, omega arith, omega arith, omega arith)
decoded (CsrOf op immediate) bits h = (omega arith, omega arith, omega arith)
decoded (Plain instr) bits h = no_operand instr h
decoded TranslationFence bits h = (omega arith, omega arith)

decoded_at : (r : Row) (rest : Option Form) (bits : ℕ) (b : Bool) → IsTrue (is_sound r.form) → IfSome (option_map (λ f. read f bits) rest) IsDecoded → IfSome (option_map (λ f. read f bits) (cond b (Some r.form) rest)) IsDecoded
decoded_at r rest bits true h k = decoded r.form bits h
decoded_at r rest bits false h k = k

decoded_in : (rows : List Row) (bits : ℕ) → IsTrue (all_sound rows) → IfSome (instr_in rows bits) IsDecoded
decoded_in [] bits h = tt
decoded_in (r ∷ rows) bits h = decoded_at r (first_form rows bits) bits (fits r.fixed bits) (grind arith) (decoded_in rows bits (grind arith))

pub well_formed : (bits : ℕ) → IfSome (instr_of bits) IsDecoded
unfolding instr_of
well_formed bits = decoded_in table bits refl
