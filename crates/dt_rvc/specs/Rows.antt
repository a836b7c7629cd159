-- Rows of fixed fields, and the first of them that a 16-bit pattern fits.
use Rattle.std.specs.Prelude.{ℕ, ◌+◌, ◌-◌, Bool, true, ◌==◌, ◌&&◌, List, [], ◌∷◌, Option, Some, None, option_and_then, if◌then◌else◌}
use Rattle.dt_rvc.specs.Fields.{field}
use Rattle.dt_rvc.specs.Forms.{Form, word_of}

-- a field that a row fixes: the `width` bits from bit `low` on are `value`
pub record Fixed : Type 0 where
  pub low : ℕ
  pub width : ℕ
  pub value : ℕ

-- a form, and the fields that tell it where no row above does
pub record Row : Type 0 where
  pub fixed : List Fixed
  pub form : Form

-- each of the fields is as it is fixed
abbrev pub fits : List Fixed → ℕ → Bool
fits [] half = true
fits (f ∷ fs) half = (field f.low f.width half == f.value) && fits fs half

-- the form of the first row that the pattern fits
abbrev pub first_form : List Row → ℕ → Option Form
first_form [] half = None
first_form (r ∷ rs) half = if fits r.fixed half then Some r.form else first_form rs half

-- the 32-bit instruction of that form
abbrev pub expansion_in : List Row → ℕ → Option ℕ
expansion_in rows half = option_and_then (λ f. word_of f half) (first_form rows half)

-- a row
infix 5 ◌⇒◌
abbrev pub ◌⇒◌ : List Fixed → Form → Row
fixed ⇒ form = record { fixed = fixed; form = form }

-- bits 1:0
abbrev pub quadrant : ℕ → Fixed
quadrant v = record { low = 0; width = 2; value = v }

-- bits 15:13
abbrev pub funct3 : ℕ → Fixed
funct3 v = record { low = 13; width = 3; value = v }

-- the bits from `high` down to `low`
abbrev pub bits : ℕ → ℕ → ℕ → Fixed
bits high low v = record { low = low; width = high + 1 - low; value = v }

-- bits 11:7
abbrev pub rd : ℕ → Fixed
rd v = record { low = 7; width = 5; value = v }

-- bits 6:2
abbrev pub rs2 : ℕ → Fixed
rs2 v = record { low = 2; width = 5; value = v }
