use Rattle.std.proofs.Common.{ap, sym, ◌∙◌, subst, refl}
use Rattle.dt_windows.specs.Kept.{WindowsView}
use Rattle.dt_windows.specs.Marks.{IsLive, undone}
use Rattle.dt_windows.proofs.Soundness.{within_steps, IsSound-undone, windows_of-undone}
use Rattle.dt_windows.proofs.windows.Windows.undo_to.Goals as goal

pub undo_steps-requires-clause-within : goal.undo_steps-requires-clause-within
undo_steps-requires-clause-within c =
    let w = c.self.inside in
    within_steps w.fenced.entries w.steps w.instructions w.all c.args.m (subst (λ (v : WindowsView). IsLive v c.args.m) (sym c.self.view_is) c.requires)

pub invariant_of-self : goal.invariant_of-self
invariant_of-self c =
    let live = subst (λ (v : WindowsView). IsLive v c.args.m) (sym c.self.view_is) c.requires in
    let after = c.undo_steps.ensures in
    IsSound-undone c.self.inside.fenced c.undo_steps.new.slots c.self.inside.steps _ _ c.self.invariant refl refl after.kept after.len after.slots after.have live.keeps

pub returns : goal.returns
returns c =
    let w = c.self.inside in
    windows_of-undone w.fenced.entries c.undo_steps.new.slots.entries w.steps
    (record { keeps = w.steps.keeps; from = w.steps.from; kept = c.undo_steps.new.kept }) w.instructions w.all c.args.m
    refl refl c.undo_steps.ensures.entries c.undo_steps.ensures.kept
    ∙ ap (λ (v : WindowsView). undone v c.args.m) c.self.view_is
