use Rattle.std.proofs.Common.{ap, sym, ◌∙◌, subst, refl}
use Rattle.dt_stores.specs.Kept.{Kept}
use Rattle.dt_stores.specs.Marks.{IsLive, forgotten}
use Rattle.dt_stores.proofs.GoingBack.{within_steps, HasPast-forgotten, kept_of-forgotten}
use Rattle.dt_stores.proofs.buffer.Stores.forget.Goals as goal

pub forget_steps-requires : goal.forget_steps-requires
forget_steps-requires c =
    within_steps _ c.self.inside.ww c.self.inside.wr c.self.inside.steps c.args.m (subst (λ (k : Kept). IsLive k c.args.m) (sym c.self.view_is) c.requires)

pub invariant_of-self : goal.invariant_of-self
invariant_of-self c =
    let s = c.self.inside in
    let live = subst (λ (k : Kept). IsLive k c.args.m) (sym c.self.view_is) c.requires in
    let after = c.forget_steps.ensures in
    HasPast-forgotten _ s.ww s.wr s.lines.items s.steps _ c.args.m c.self.invariant live refl refl after.kept after.len

pub returns : goal.returns
returns c =
    let s = c.self.inside in
    kept_of-forgotten _ s.ww s.wr s.steps (record { keeps = s.steps.keeps; from = c.args.m.at; kept = c.forget_steps.new.kept }) c.args.m refl refl c.forget_steps.ensures.kept
    ∙ ap (λ (k : Kept). forgotten k c.args.m) c.self.view_is
