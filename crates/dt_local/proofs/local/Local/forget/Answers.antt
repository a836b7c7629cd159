use Rattle.std.proofs.Common.{ap, sym, ◌∙◌, subst, refl}
use Rattle.dt_local.specs.LocalMemory.{LocalMemory}
use Rattle.dt_local.specs.Marks.{IsLive, forgotten}
use Rattle.dt_local.proofs.Soundness.{within_steps, IsSound-forgotten, memory_of-forgotten}
use Rattle.dt_local.proofs.local.Local.forget.Goals as goal

pub forget_steps-requires : goal.forget_steps-requires
forget_steps-requires c =
    within_steps c.self.inside.slots.entries c.self.inside.steps _ c.args.m (subst (λ (l : LocalMemory). IsLive l c.args.m) (sym c.self.view_is) c.requires)

pub invariant_of-self : goal.invariant_of-self
invariant_of-self c =
    let live = subst (λ (l : LocalMemory). IsLive l c.args.m) (sym c.self.view_is) c.requires in
    let after = c.forget_steps.ensures in
    IsSound-forgotten c.self.inside.slots c.self.inside.steps _ _ c.args.m c.self.invariant refl refl after.kept after.len after.capacity live.keeps live.kept

pub returns : goal.returns
returns c =
    memory_of-forgotten c.self.inside.slots.entries c.self.inside.steps (record { keeps = c.self.inside.steps.keeps; from = c.args.m.at; kept = c.forget_steps.new.kept }) _ c.args.m
    refl refl c.forget_steps.ensures.kept
    ∙ ap (λ (l : LocalMemory). forgotten l c.args.m) c.self.view_is
