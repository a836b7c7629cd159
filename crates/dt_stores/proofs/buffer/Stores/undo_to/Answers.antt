use Rattle.std.proofs.Common.{◌≡◌, List, length, drop, ap, sym, ◌∙◌, subst, refl, arith}
use Rattle.std.proofs.lemmas.List.{with_items_is}
use Rattle.dt_stores.specs.declared.lines.Line.{Line}
use Rattle.dt_stores.specs.Kept.{Kept}
use Rattle.dt_stores.specs.Lines.{taken_in, FindPlaces}
use Rattle.dt_stores.specs.Marks.{IsLive, undone}
use Rattle.dt_stores.specs.Past.{buffer_of}
use Rattle.dt_stores.specs.Sound.{HasPast}
use Rattle.dt_stores.proofs.GoingBack.{count_to, within_steps, HasPast-undone, kept_of-undone, taken_before-same}
use Rattle.dt_stores.proofs.buffer.Stores.undo_to.Goals as goal

pub undo_steps-self-inside-requires-clause-places : goal.undo_steps-self-inside-requires-clause-places
undo_steps-self-inside-requires-clause-places c =
    subst (λ (l : List Line). FindPlaces l c.self.inside.entries.items) (sym c.as_mut_slice.ensures.value) c.self.invariant.now.by_line.places

pub undo_steps-self-inside-requires-clause-within : goal.undo_steps-self-inside-requires-clause-within
undo_steps-self-inside-requires-clause-within c =
    within_steps _ c.self.inside.ww c.self.inside.wr c.self.inside.steps c.args.m (subst (λ (k : Kept). IsLive k c.args.m) (sym c.self.view_is) c.requires)

pub invariant_of-self : goal.invariant_of-self
invariant_of-self c =
    let s = c.self.inside in
    let live = subst (λ (k : Kept). IsLive k c.args.m) (sym c.self.view_is) c.requires in
    let after = c.undo_steps-self-inside.ensures in
    let long : length c.undo_steps-self-inside.new.lines ≡ s.lines.len = omega arith in
    let lines = with_items_is s.lines c.undo_steps-self-inside.new.lines long in
    subst (λ l. HasPast (buffer_of c.undo_steps-self-inside.new.entries.items c.undo_steps-self-inside.result c.undo_steps-self-inside.new.late.items) c.args.m.ww c.args.m.wr l (record { keeps = s.steps.keeps; from = s.steps.from; kept = c.undo_steps-self-inside.new.kept })) (sym lines)
    (HasPast-undone (buffer_of s.entries.items s.first s.late.items) _ s.ww s.wr s.lines.items c.undo_steps-self-inside.new.lines s.steps
    (record { keeps = s.steps.keeps; from = s.steps.from; kept = c.undo_steps-self-inside.new.kept }) c.args.m c.self.invariant live after.buffer after.places
    (λ line. after.taken line ∙ taken_before-same (taken_in c.as_mut_slice.result.now) (taken_in s.lines.items) (drop (count_to s.steps c.args.m) s.steps.kept.items) (λ l. ap (λ ls. taken_in ls l) c.as_mut_slice.ensures.value) line)
    refl refl after.kept after.len)

pub returns : goal.returns
returns c =
    let s = c.self.inside in
    let after = c.undo_steps-self-inside.ensures in
    kept_of-undone (buffer_of s.entries.items s.first s.late.items) (buffer_of c.undo_steps-self-inside.new.entries.items c.undo_steps-self-inside.result c.undo_steps-self-inside.new.late.items) s.ww s.wr s.steps
    (record { keeps = s.steps.keeps; from = s.steps.from; kept = c.undo_steps-self-inside.new.kept }) c.args.m refl refl after.buffer after.kept
    ∙ ap (λ (k : Kept). undone k c.args.m) c.self.view_is
