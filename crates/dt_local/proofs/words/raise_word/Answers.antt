use Rattle.std.proofs.Common.{sym, subst}
use Rattle.dt_local.specs.Slots.{Entries, IsStepped}
use Rattle.dt_local.proofs.Undoing.{IsStepped-set}
use Rattle.dt_local.proofs.words.raise_word.Goals as goal

pub returns-in-Some-clause-stepped : goal.returns-in-Some-clause-stepped
returns-in-Some-clause-stepped c =
    let old : Entries = c.args.slots.now.entries in
    let kept = c.keep_step.ensures in
    subst (λ (fs : Entries). IsStepped old fs c.args.steps.now c.keep_step.new.steps 1) (sym (c.get_mut.follows.holds c.raise_slot.new.slot).0)
    (IsStepped-set old (record { word = c.args.word; slot = c.in-Some.slot.now }) c.raise_slot.new.slot c.args.steps.now c.keep_step.new.steps
    (sym c.in-Some.ensures.value) kept.keeps kept.from kept.kept kept.len kept.capacity)
