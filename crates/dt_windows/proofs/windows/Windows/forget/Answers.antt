use Rattle.std.proofs.Common.{ap, sym, ◌∙◌, subst, refl}
use Rattle.dt_windows.specs.Kept.{WindowsView}
use Rattle.dt_windows.specs.Marks.{IsLive, forgotten}
use Rattle.dt_windows.proofs.Soundness.{within_steps, IsSound-forgotten, windows_of-forgotten}
use Rattle.dt_windows.proofs.windows.Windows.forget.Goals as goal

pub forget_steps-requires : goal.forget_steps-requires
forget_steps-requires c =
    let w = c.self.inside in
    within_steps w.fenced.entries w.steps w.instructions w.all c.args.m (subst (λ (v : WindowsView). IsLive v c.args.m) (sym c.self.view_is) c.requires)

pub invariant_of-self : goal.invariant_of-self
invariant_of-self c =
    let live = subst (λ (v : WindowsView). IsLive v c.args.m) (sym c.self.view_is) c.requires in
    let after = c.forget_steps.ensures in
    IsSound-forgotten c.self.inside.fenced c.self.inside.steps _ c.args.m c.self.invariant refl refl after.kept after.len live.keeps live.kept

pub returns : goal.returns
returns c =
    let w = c.self.inside in
    windows_of-forgotten w.fenced.entries w.steps (record { keeps = w.steps.keeps; from = c.args.m.at; kept = c.forget_steps.new.kept }) w.instructions w.all c.args.m
    refl refl c.forget_steps.ensures.kept
    ∙ ap (λ (v : WindowsView). forgotten v c.args.m) c.self.view_is
