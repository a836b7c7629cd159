use Rattle.std.proofs.Common.{ap, sym, ◌∙◌, subst, refl}
use Rattle.std.specs.Option.{option_map}
use Rattle.dt_local.specs.LocalMemory.{LocalMemory, reserved_at}
use Rattle.dt_local.specs.Marks.{IsLive, undone}
use Rattle.dt_local.proofs.Soundness.{within_steps, IsSound-undone, memory_of-undone}
use Rattle.dt_local.proofs.local.Local.undo_to.Goals as goal

pub undo_steps-requires-clause-within : goal.undo_steps-requires-clause-within
undo_steps-requires-clause-within c =
    within_steps c.self.inside.slots.entries c.self.inside.steps _ c.args.m (subst (λ (l : LocalMemory). IsLive l c.args.m) (sym c.self.view_is) c.requires)

pub invariant_of-self : goal.invariant_of-self
invariant_of-self c =
    let live = subst (λ (l : LocalMemory). IsLive l c.args.m) (sym c.self.view_is) c.requires in
    let after = c.undo_steps.ensures in
    IsSound-undone c.self.inside.slots c.undo_steps.new.slots c.self.inside.steps _ _ _ c.self.invariant refl refl after.kept after.len after.words after.have live.keeps

pub returns : goal.returns
returns c =
    memory_of-undone c.self.inside.slots.entries c.undo_steps.new.slots.entries c.self.inside.steps
    (record { keeps = c.self.inside.steps.keeps; from = c.self.inside.steps.from; kept = c.undo_steps.new.kept }) (option_map (λ r. reserved_at r.line r.mask) c.self.inside.reserved) c.args.m
    refl refl c.undo_steps.ensures.entries c.undo_steps.ensures.kept
    ∙ ap (λ (l : LocalMemory). undone l c.args.m) c.self.view_is
