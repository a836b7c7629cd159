-- Rows of fixed fields, and the first of them that a word fits.
use Rattle.std.specs.Prelude.{ℕ, Bool, true, ◌==◌, ◌&&◌, List, [], ◌∷◌, Option, Some, None, option_map, if◌then◌else◌}
use Rattle.dt_decode.specs.Fields.{field}
use Rattle.dt_decode.specs.declared.instructions.Instr.{Instr}
use Rattle.dt_decode.specs.Forms.{Form, read}

-- a field that a row fixes: the `width` bits from bit `low` on are `value`
pub record Fixed : Type 0 where
  pub low : ℕ
  pub width : ℕ
  pub value : ℕ

-- an instruction: the fields that tell it, and what it does
pub record Row : Type 0 where
  pub fixed : List Fixed
  pub form : Form

abbrev pub has_field : ℕ → Fixed → Bool
has_field bits f = field f.low f.width bits == f.value

-- each of the fields is as it is fixed
abbrev pub fits : List Fixed → ℕ → Bool
fits [] bits = true
fits (f ∷ fs) bits = has_field bits f && fits fs bits

-- the form of the first row that the word fits
abbrev pub first_form : List Row → ℕ → Option Form
first_form [] bits = None
first_form (r ∷ rs) bits = if fits r.fixed bits then Some r.form else first_form rs bits

-- the instruction of the first row that the word fits
abbrev pub instr_in : List Row → ℕ → Option Instr
instr_in rows bits = option_map (λ f. read f bits) (first_form rows bits)

-- a row
infix 5 ◌⇒◌
abbrev pub ◌⇒◌ : List Fixed → Form → Row
fixed ⇒ form = record { fixed = fixed; form = form }

abbrev pub opcode : ℕ → Fixed
opcode v = record { low = 0; width = 7; value = v }

abbrev pub rd : ℕ → Fixed
rd v = record { low = 7; width = 5; value = v }

abbrev pub funct3 : ℕ → Fixed
funct3 v = record { low = 12; width = 3; value = v }

abbrev pub rs1 : ℕ → Fixed
rs1 v = record { low = 15; width = 5; value = v }

abbrev pub rs2 : ℕ → Fixed
rs2 v = record { low = 20; width = 5; value = v }

-- bits 31:25
abbrev pub funct7 : ℕ → Fixed
funct7 v = record { low = 25; width = 7; value = v }

-- bits 31:26, which tell a shift by six bits of amount
abbrev pub funct6 : ℕ → Fixed
funct6 v = record { low = 26; width = 6; value = v }

-- bits 31:27, which tell an atomic instruction
abbrev pub funct5 : ℕ → Fixed
funct5 v = record { low = 27; width = 5; value = v }
