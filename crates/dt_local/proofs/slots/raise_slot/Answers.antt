use Rattle.std.proofs.Common.{Option, ap, ◌∙◌, inl, inr, arith}
use Rattle.std.proofs.lemmas.Bool.{cases_eq}
use Rattle.dt_record.specs.declared.keys.Key.{Key}
use Rattle.dt_local.specs.LocalMemory.{greater}
use Rattle.dt_local.specs.Slots.{key_at}
use Rattle.dt_local.proofs.slots.raise_slot.Goals as goal

pub loop-byte-preserved : goal.loop-byte-preserved
loop-byte-preserved c = record {
  raised = λ b below. elim (cases_eq b c.loop-byte.byte) [
    | inl is ↦ rw is (c.raise_byte.ensures.here
        ∙ ap (λ (o : Option Key). greater o c.noted_key-noted.result) (c.loop-byte.invariant.same c.loop-byte.byte (omega arith) (omega arith))
        ∙ ap (λ (o : Option Key). greater (key_at c.args.slot.now c.loop-byte.byte) o) c.noted_key-noted.ensures)
    | inr apart ↦ c.raise_byte.ensures.others b (omega arith) apart ∙ c.loop-byte.invariant.raised b (omega arith)
  ];
  same = λ b above within. c.raise_byte.ensures.others b within (λ is. omega arith) ∙ c.loop-byte.invariant.same b (omega arith) within;
}
