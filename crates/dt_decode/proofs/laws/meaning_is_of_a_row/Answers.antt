use Rattle.std.proofs.Common.{◌≡◌, ℕ, Some, Option, None, option_map, refl, ap, ◌∙◌, sym}
use Rattle.dt_decode.specs.declared.instructions.Instr.{Instr}
use Rattle.dt_decode.specs.Forms.{Form, read}
use Rattle.dt_decode.specs.Meaning.{IsMeaning}
use Rattle.dt_decode.specs.Rows.{first_form}
use Rattle.dt_decode.specs.Table.{instr_of, table}
use Rattle.dt_decode.proofs.RowLemmas.{IsFirst, row_of_form, form_of_row}
use Rattle.dt_decode.proofs.laws.meaning_is_of_a_row.Goals as goal

form_read : (o : Option Form) (bits : ℕ) (instr : Instr) → option_map (λ f. read f bits) o ≡ Some instr → (f : Form) × (o ≡ Some f) × (instr ≡ read f bits)
form_read None bits instr e = cc
form_read (Some f) bits instr e = (f, refl, cc)

to_row : (bits : ℕ) (instr : Instr) → instr_of bits ≡ Some instr → IsMeaning bits instr
unfolding instr_of
to_row bits instr e =
    let w = form_read (first_form table bits) bits instr e in
    let h : IsFirst table bits w.0 = row_of_form table bits w.0 w.1 in
    record { place = h.place; row = h.row; listed = h.listed; fit = h.fit; is = w.2 ∙ ap (λ f. read f bits) h.is }

from_row : (bits : ℕ) (instr : Instr) → IsMeaning bits instr → instr_of bits ≡ Some instr
unfolding instr_of
from_row bits instr m =
    ap (option_map (λ f. read f bits)) (form_of_row table bits m.place m.row refl m.listed m.fit) ∙ ap Some (sym m.is)

pub returns : goal.returns
returns c = λ bits instr. (to_row bits instr, from_row bits instr)
