use Rattle.std.proofs.Common.{◌∙◌, ap, sym}
use Rattle.dt_record.proofs.Undoing.{set_value_none}
use Rattle.dt_local.proofs.words.put_slot.Goals as goal

pub returns-in_default-clause-entries : goal.returns-in_default-clause-entries
returns-in_default-clause-entries c =
    ap (λ slots. slots.entries) c.get_mut.follows.holds-at-none
    ∙ sym (set_value_none c.args.word c.args.slots.now.entries c.args.slot (sym c.in_default.ensures.value))
