use Rattle.std.proofs.Common.{◌≡◌, ◌++◌, ◌∷◌, [], List, None, length, refl, ap, ◌∙◌, sym, arith, subst}
use Rattle.std.specs.Vec.{with_items}
use Rattle.std.proofs.lemmas.List.{with_items_is}
use Rattle.dt_record.specs.Memory.{line_of}
use Rattle.dt_record.specs.Actions.{Held}
use Rattle.dt_stores.specs.declared.steps.Step.TheVariants.{Commit}
use Rattle.dt_stores.specs.Kept.{Kept}
use Rattle.dt_stores.specs.Marks.{KeepsMarks}
use Rattle.dt_stores.specs.Past.{buffer_of, before_step, kept_of}
use Rattle.dt_stores.specs.Sound.{IsSound, HasPast}
use Rattle.dt_stores.proofs.Keeping.{sound_committed, sound_same, adds_place}
use Rattle.dt_stores.proofs.Releasing.{undoes_commit}
use Rattle.dt_stores.proofs.StandingLaws.{stands_stored}
use Rattle.dt_stores.proofs.GoingBack.{IsStepped, stepped, HasPast-same, HasPast-stepped, KeepsMarks-stepped}
use Rattle.dt_stores.proofs.buffer.Stores.commit.Goals as goal

pub invariant_of-self : goal.invariant_of-self
invariant_of-self c =
    let s = c.self.inside in
    HasPast-same _ _ s.ww s.wr s.ww s.wr s.lines.items c.make_room.new.lines.items s.steps s.steps refl c.in_err-make_room.ensures.taken (record { keeps = refl; from = refl; kept = refl; len = refl })
    (sound_same s.entries.items s.ww s.wr s.first s.late.items s.lines.items c.make_room.new.lines.items c.in_err-make_room.ensures.places c.in_err-make_room.ensures.taken c.self.invariant.now)
    c.self.invariant

pub invariant_of-self-in_err-reserve_step : goal.invariant_of-self-in_err-reserve_step
invariant_of-self-in_err-reserve_step c =
    let s = c.self.inside in
    let same = c.reserve_step.ensures in
    HasPast-same _ _ s.ww s.wr s.ww s.wr s.lines.items c.make_room.new.lines.items s.steps c.reserve_step.new.steps refl c.in_ok-make_room.ensures.taken
    (record { keeps = same.keeps; from = same.from; kept = same.kept; len = same.len })
    (sound_same s.entries.items s.ww s.wr s.first s.late.items s.lines.items c.make_room.new.lines.items c.in_ok-make_room.ensures.places c.in_ok-make_room.ensures.taken c.self.invariant.now)
    c.self.invariant

pub invariant_of-self-in_err-push : goal.invariant_of-self-in_err-push
invariant_of-self-in_err-push c =
    let s = c.self.inside in
    let same = c.reserve_step.ensures in
    HasPast-same _ _ s.ww s.wr s.ww s.wr s.lines.items c.make_room.new.lines.items s.steps c.reserve_step.new.steps (ap (λ l. buffer_of l s.first s.late.items) (sym {A = List Held} c.in_err-push.ensures.items)) c.in_ok-make_room.ensures.taken
    (record { keeps = same.keeps; from = same.from; kept = same.kept; len = same.len })
    (subst (λ l. IsSound l s.ww s.wr s.first s.late.items c.make_room.new.lines.items) (sym {A = List Held} c.in_err-push.ensures.items)
    (sound_same s.entries.items s.ww s.wr s.first s.late.items s.lines.items c.make_room.new.lines.items c.in_ok-make_room.ensures.places c.in_ok-make_room.ensures.taken c.self.invariant.now))
    c.self.invariant

-- what the step is kept as
commits : (c : goal.After-keep_step) → IsStepped c.self.inside.steps c.keep_step.new.steps Commit
commits c =
    let same = c.reserve_step.ensures in
    let kept = c.keep_step.ensures in
    stepped c.self.inside.steps c.reserve_step.new.steps c.keep_step.new.steps Commit (record { keeps = same.keeps; from = same.from; kept = same.kept; len = same.len })
    c.in_ok-reserve_step.ensures.spare.counted kept.keeps kept.from kept.kept kept.len

-- and that it leads back
leads : (c : goal.After-keep_step) → before_step (buffer_of c.push.new.self.items c.self.inside.first c.self.inside.late.items) Commit ≡ buffer_of c.self.inside.entries.items c.self.inside.first c.self.inside.late.items
leads c =
    let stored = c.in_ok-push.ensures.items ∙ ap (λ (h : Held). c.self.inside.entries.items ++ h ∷ []) c.new.ensures in
    ap (λ l. before_step (buffer_of l c.self.inside.first c.self.inside.late.items) Commit) stored ∙ undoes_commit c.self.inside.entries.items _ c.self.inside.first c.self.inside.late.items

pub invariant_of-self-2 : goal.invariant_of-self-2
invariant_of-self-2 c =
    let s = c.self.inside in
    let long : length c.add_place.new.lines ≡ c.make_room.new.lines.len = omega arith in
    let lines : c.add_place.new.lines ≡ (with_items c.make_room.new.lines c.add_place.new.lines).items = sym (with_items_is c.make_room.new.lines c.add_place.new.lines long) in
    let stored = c.in_ok-push.ensures.items ∙ ap (λ (h : Held). s.entries.items ++ h ∷ []) c.new.ensures in
    let adds = adds_place s.entries.items s.lines.items c.make_room.new.lines.items c.as_mut_slice.result.now c.add_place.new.lines c.line_of-line.result (line_of c.args.s.addr) c.len-place.result
    c.as_mut_slice.ensures.value c.line_of-line.ensures (omega arith) c.in_ok-make_room.ensures.places c.in_ok-make_room.ensures.taken c.add_place.ensures.places c.add_place.ensures.taken in
    subst (λ l. HasPast (buffer_of c.push.new.self.items s.first s.late.items) s.ww s.wr l c.keep_step.new.steps) lines
    (HasPast-stepped (buffer_of s.entries.items s.first s.late.items) (buffer_of c.push.new.self.items s.first s.late.items) s.ww s.wr s.lines.items c.add_place.new.lines s.steps c.keep_step.new.steps Commit c.self.invariant
    (commits c)
    (subst (λ l. IsSound l s.ww s.wr s.first s.late.items c.add_place.new.lines) (sym stored)
    (sound_committed s.entries.items s.ww s.wr s.first s.late.items s.lines.items c.add_place.new.lines c.args.s c.requires adds c.self.invariant.now))
    (leads c) adds.taken)

pub returns-clause-ok : goal.returns-clause-ok
returns-clause-ok c =
    let with : Kept → List Held = λ k. k.held ++ record { store = c.args.s; barrier = k.ww; readers = k.wr; drained = None } ∷ [] in
    λ actions stands. stands_stored c.args.self.now _ c.args.s actions
    (c.in_ok-push.ensures.items ∙ ap (λ (h : Held). c.self.inside.entries.items ++ h ∷ []) c.new.ensures ∙ ap with c.self.view_is)
    (ap (λ (k : Kept). k.ww) c.self.view_is)
    (ap (λ (k : Kept). k.wr) c.self.view_is)
    stands

pub returns-clause-marks : goal.returns-clause-marks
returns-clause-marks c =
    let s = c.self.inside in
    subst (λ (k : Kept). KeepsMarks k (kept_of (buffer_of c.push.new.self.items s.first s.late.items) s.ww s.wr c.keep_step.new.steps)) c.self.view_is
    (KeepsMarks-stepped (buffer_of s.entries.items s.first s.late.items) (buffer_of c.push.new.self.items s.first s.late.items) s.ww s.wr s.steps c.keep_step.new.steps Commit (commits c) (leads c))
