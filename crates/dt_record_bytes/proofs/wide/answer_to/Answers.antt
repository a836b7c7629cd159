use Rattle.std.proofs.Common.{◌≡◌, get_or, sym, ap, ◌∙◌, arith}
use Rattle.std.proofs.lemmas.Grind.{common_steps}
use Rattle.dt_record_bytes.specs.WideAnswer.{wide_length}
use Rattle.dt_record_bytes.proofs.Answering.{got_answer}
use Rattle.dt_record_bytes.proofs.wide.answer_to.Goals as goal

pub returns-in-None : goal.returns-in-None
returns-in-None c =
    let tag : get_or c.args.b.now 0 0 ≡ c.in-Some.tag.now = grind (arith, common_steps) in
    let f = c.fields_of-fields.ensures.fields in
    got_answer c.args.b.now c.fields_of-fields.result.event c.fields_of-fields.result.wrote_byte f.0 c.in-Some-length_of.len f.1
    (ap wide_length (c.fields_of-fields.ensures.kind ∙ tag) ∙ sym c.in-Some-length_of.ensures) c.in-None.ensures
