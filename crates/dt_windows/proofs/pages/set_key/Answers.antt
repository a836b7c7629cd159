use Rattle.std.proofs.Common.{Some, sym, subst}
use Rattle.dt_windows.specs.Pages.{Entries, IsStepped}
use Rattle.dt_windows.proofs.Undoing.{IsStepped-set}
use Rattle.dt_windows.proofs.pages.set_key.Goals as goal

pub returns-in-Some-clause-stepped : goal.returns-in-Some-clause-stepped
returns-in-Some-clause-stepped c =
    let old : Entries = c.args.slots.now.entries in
    let kept = c.keep_step.ensures in
    subst (λ (fs : Entries). IsStepped old fs c.args.steps.now c.keep_step.new.steps) (sym (c.get_mut.follows.holds (Some c.args.key)).0)
    (IsStepped-set old (record { page = c.args.page; key = c.in-Some.slot.now }) (Some c.args.key) c.args.steps.now c.keep_step.new.steps
    (sym c.in-Some.ensures.value) kept.keeps kept.from kept.kept kept.len)
