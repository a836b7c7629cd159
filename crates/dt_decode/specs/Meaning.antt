-- What the table says of a word, whatever the order of its rows.
use Rattle.std.specs.Prelude.{ℕ, ◌≡◌, IsTrue, Some, slice_get}
use Rattle.dt_decode.specs.declared.instructions.Instr.{Instr}
use Rattle.dt_decode.specs.Forms.{read}
use Rattle.dt_decode.specs.Rows.{Row, fits}
use Rattle.dt_decode.specs.Table.{table}

-- the instruction of a row of the table that the word fits
pub record IsMeaning (bits : ℕ) (instr : Instr) : Type 0 where
  pub place : ℕ
  pub row : Row
  pub listed : slice_get table place ≡ Some row
  pub fit : IsTrue (fits row.fixed bits)
  pub is : instr ≡ read row.form bits
