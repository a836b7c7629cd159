use Rattle.std.proofs.Common.{◌%◌, ◌∙◌, ap}
use Rattle.std.specs.Prelude.{Bool, if◌then◌else◌, option_and_then}
use Rattle.std.proofs.lemmas.Bool.{ne_eqb}
use Rattle.dt_decode.specs.Table.{instr_of}
use Rattle.dt_rvc.specs.Table.{expansion}
use Rattle.dt_reference.proofs.meanings.meaning.Goals as goal

pub returns-clause-compressed : goal.returns-clause-compressed
returns-clause-compressed c short =
    let bits = c.args.bits in
    c.meaning_by_row.ensures.meaning
    ∙ ap (λ (b : Bool). if b then instr_of bits else option_and_then instr_of (expansion bits)) (ne_eqb (bits % 4) 3 short)
    ∙ c.expansions_are_decoded.ensures.meaning bits
