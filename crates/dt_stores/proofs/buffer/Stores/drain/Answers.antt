use Rattle.std.proofs.Common.{◌≡◌, ◌+◌, ◌≤◌, ◌++◌, ◌∷◌, [], false, All, IfSome, Result, Ok, Err, OnOk, is_err, List, drop, filter, length, refl, ap, ◌∙◌, sym, arith, subst}
use Rattle.std.specs.List.{position_or_len}
use Rattle.std.specs.Vec.{with_items}
use Rattle.std.proofs.lemmas.Bool.{false≢true}
use Rattle.std.proofs.lemmas.List.{with_items_is, length-take-le}
use Rattle.dt_record.specs.Keys.{KeyBelow}
use Rattle.dt_record.specs.Actions.{Held, is_waiting}
use Rattle.dt_stores.specs.declared.late.Late.{Late}
use Rattle.dt_stores.specs.declared.lines.Line.{Line}
use Rattle.dt_stores.specs.declared.steps.Step.{Step}
use Rattle.dt_stores.specs.declared.steps.Step.TheVariants.{Drain}
use Rattle.dt_stores.specs.Draining.{is_waiting_on, answer_among}
use Rattle.dt_stores.specs.Indexed.{AreAt}
use Rattle.dt_stores.specs.Kept.{Kept}
use Rattle.dt_stores.specs.Lines.{places_in, taken_in}
use Rattle.dt_stores.specs.Marks.{KeepsMarks}
use Rattle.dt_stores.specs.Past.{buffer_of, before_step, kept_of}
use Rattle.dt_stores.specs.Sound.{IsSound, HasPast}
use Rattle.dt_stores.proofs.DrainLaws.{marked, marked-none}
use Rattle.dt_stores.proofs.Firsts.{first-within}
use Rattle.dt_stores.proofs.GoingBack.{IsStepped, stepped, HasPast-same, HasPast-stepped, KeepsMarks-same, KeepsMarks-stepped}
use Rattle.dt_stores.proofs.Keeping.{finds-waiting, taken-within, sound_drained, can_take, adds_taken, marked_by, waiting-length, more-within}
use Rattle.dt_stores.proofs.Marking.{first-later}
use Rattle.dt_stores.proofs.PlanLaws.{took_enough, took-if}
use Rattle.dt_stores.proofs.Releasing.{undoes_drain, taken-back}
use Rattle.dt_stores.proofs.StandingLaws.{stands_drained}
use Rattle.dt_stores.proofs.buffer.Stores.drain.Goals as goal
use Rattle.dt_stores.proofs.buffer.Stores.drain.Goals.{then-count-eq0-via-then-count-eq0, then-count-eq0-via-else-count-eq0+then-not-is_taking}

pub waiting_at-waiting-requires : goal.waiting_at-waiting-requires
waiting_at-waiting-requires c =
    let Within : List Line → Type 0 = λ lines. taken_in lines c.args.line ≤ length (places_in lines c.args.line) in
    subst Within (sym c.deref.ensures.value) (taken-within c.self.inside.entries.items c.self.inside.lines.items c.self.invariant.now.by_line c.args.line)

pub answer_of-answer-requires-clause-waiting : goal.answer_of-answer-requires-clause-waiting
answer_of-answer-requires-clause-waiting c =
    let At : List Held → Type 0 = λ held. AreAt held c.waiting_at-waiting.result.now (filter (is_waiting_on c.args.line) held) in
    let places = c.waiting_at-waiting.ensures ∙ ap (λ (lines : List Line). drop (taken_in lines c.args.line) (places_in lines c.args.line)) c.deref.ensures.value in
    subst At (sym c.deref-2.ensures.value)
    (subst (λ l. AreAt c.self.inside.entries.items l (filter (is_waiting_on c.args.line) c.self.inside.entries.items)) (sym places)
    (finds-waiting c.self.inside.entries.items c.self.inside.lines.items c.self.invariant.now.by_line c.args.line))

pub answer_of-answer-requires-clause-within : goal.answer_of-answer-requires-clause-within
answer_of-answer-requires-clause-within c = omega (arith, c.deref-2.ensures.len, first-within is_waiting c.self.inside.entries.items, c.self.invariant.now.firsts.now)

pub returns-then-count-eq0-clause-took : goal.returns-then-count-eq0-clause-took
returns-then-count-eq0-clause-took c =
    took-if c.answer_of-answer.result (λ taking. elim c.then-count-eq0.branch [
      | then-count-eq0-via-then-count-eq0 w ↦ (λ actions stands.
          stands_drained c.args.self.now c.args.self.now c.args.key c.args.line c.args.count actions
          (sym (ap (λ n. marked c.args.line c.args.key n c.args.self.now.held) w.if-count-eq0.true ∙ marked-none c.args.line c.args.key c.args.self.now.held))
          refl refl (omega (arith, w.if-count-eq0.true)) stands)
      | then-count-eq0-via-else-count-eq0+then-not-is_taking w ↦ absurd (false≢true (sym w.if-not-is_taking.true ∙ w.is_taking.ensures ∙ taking))
    ])

pub returns-then-count-eq0-clause-marks : goal.returns-then-count-eq0-clause-marks
returns-then-count-eq0-clause-marks c =
    took-if c.answer_of-answer.result (λ taking. KeepsMarks-same c.args.self.now c.args.self.now refl refl refl refl)

pub invariant_of-self-then-is_err-2 : goal.invariant_of-self-then-is_err-2
invariant_of-self-then-is_err-2 c =
    let s = c.self.inside in
    let same = c.reserve_step.ensures in
    let late = c.reserve.ensures.items in
    HasPast-same (buffer_of s.entries.items s.first s.late.items) (buffer_of s.entries.items s.first c.reserve.new.self.items) s.ww s.wr s.ww s.wr s.lines.items s.lines.items s.steps c.reserve_step.new.steps
    (ap (λ l. buffer_of s.entries.items s.first l) (sym late)) (λ line. refl) (record { keeps = same.keeps; from = same.from; kept = same.kept; len = same.len })
    (subst (λ l. IsSound s.entries.items s.ww s.wr s.first l s.lines.items) (sym late) c.self.invariant.now) c.self.invariant

pub slice_bounds-set_drained-end : goal.slice_bounds-set_drained-end
slice_bounds-set_drained-end c =
    let answers = c.answer_of-answer.ensures ∙ ap (λ (l : List Held). answer_among l c.args.line c.args.count) c.deref-2.ensures.value in
    let taking = sym c.is_taking.ensures ∙ c.if-not-is_taking.false in
    let enough = took_enough c.self.inside.entries.items c.args.line c.args.count c.answer_of-answer.result answers taking in
    let places = c.waiting_at-waiting.ensures ∙ ap (λ (lines : List Line). drop (taken_in lines c.args.line) (places_in lines c.args.line)) c.deref.ensures.value in
    let long = ap length places ∙ waiting-length c.self.inside.entries.items c.self.inside.lines.items c.args.line c.self.invariant.now.by_line in
    sym (length-take-le c.from.result c.waiting_at-waiting.result.now (omega (arith, enough, long, c.from.ensures)))

pub add_taken-requires : goal.add_taken-requires
add_taken-requires c =
    let answers = c.answer_of-answer.ensures ∙ ap (λ (l : List Held). answer_among l c.args.line c.args.count) c.deref-2.ensures.value in
    let taking = sym c.is_taking.ensures ∙ c.if-not-is_taking.false in
    let enough = took_enough c.self.inside.entries.items c.args.line c.args.count c.answer_of-answer.result answers taking in
    subst (λ (lines : List Line). taken_in lines c.args.line + c.args.count ≤ length (places_in lines c.args.line)) (sym c.as_mut_slice-2.ensures.value)
    (more-within c.self.inside.entries.items c.self.inside.lines.items c.args.line c.args.count c.self.invariant.now.by_line (omega arith) enough)

pub first_waiting-self-inside-requires : goal.first_waiting-self-inside-requires
first_waiting-self-inside-requires c =
    let s = c.self.inside in
    let is_marked = marked_by s.entries.items c.as_mut_slice.result.now c.set_drained.new.entries s.lines.items c.deref.result.now c.waiting_at-waiting.result.now c.args.key c.args.line c.args.count c.from.result
    c.self.invariant.now.by_line c.as_mut_slice.ensures.value c.deref.ensures.value c.waiting_at-waiting.ensures c.from.ensures c.set_drained.ensures in
    let long : length c.set_drained.new.entries ≡ s.entries.len = omega arith in
    let now = c.deref-4.ensures.value ∙ with_items_is s.entries c.set_drained.new.entries long ∙ is_marked in
    let later = first-later c.args.line c.args.key c.args.count s.entries.items in
    subst (λ (l : List Held). s.first ≤ position_or_len is_waiting l) (sym now) (omega (arith, later, c.self.invariant.now.firsts.now))

-- the stores that are taken
is_marked : (c : goal.After-keep_step) → (with_items c.self.inside.entries c.set_drained.new.entries).items ≡ marked c.args.line c.args.key c.args.count c.self.inside.entries.items
is_marked c =
    let s = c.self.inside in
    let long : length c.set_drained.new.entries ≡ s.entries.len = omega arith in
    with_items_is s.entries c.set_drained.new.entries long
    ∙ marked_by s.entries.items c.as_mut_slice.result.now c.set_drained.new.entries s.lines.items c.deref.result.now c.waiting_at-waiting.result.now c.args.key c.args.line c.args.count c.from.result
    c.self.invariant.now.by_line c.as_mut_slice.ensures.value c.deref.ensures.value c.waiting_at-waiting.ensures c.from.ensures c.set_drained.ensures

new_late : (c : goal.After-keep_step) → c.push_late.new.late.items ≡ c.self.inside.late.items ++ record { stamp = c.args.key.stamp; first = c.self.inside.first } ∷ []
new_late c = c.push_late.ensures ∙ ap (λ (l : List Late). l ++ record { stamp = c.args.key.stamp; first = c.self.inside.first } ∷ []) c.reserve.ensures.items

abbrev its_step : (c : goal.After-keep_step) → Step
its_step c = Drain c.args.line c.taken_at-taken.result c.args.count

-- where there was memory
there_is : {X E P : Type 0} (r : Result X E) → is_err r ≡ false → OnOk r P → P
there_is (Ok x) is found = found
there_is (Err e) is found = absurd (false≢true (sym is))

-- what the step is kept as
drains : (c : goal.After-keep_step) → IsStepped c.self.inside.steps c.keep_step.new.steps (its_step c)
drains c =
    let same = c.reserve_step.ensures in
    let kept = c.keep_step.ensures in
    stepped c.self.inside.steps c.reserve_step.new.steps c.keep_step.new.steps (its_step c) (record { keeps = same.keeps; from = same.from; kept = same.kept; len = same.len })
    (there_is c.reserve_step.result (sym c.is_err-2.ensures.value ∙ c.if-is_err-2.false) same.spare).counted kept.keeps kept.from kept.kept kept.len

-- and that it leads back
leads : (c : goal.After-keep_step)
    → before_step (buffer_of (with_items c.self.inside.entries c.set_drained.new.entries).items c.first_waiting-self-inside.result c.push_late.new.late.items) (its_step c)
    ≡ buffer_of c.self.inside.entries.items c.self.inside.first c.self.inside.late.items
leads c =
    let s = c.self.inside in
    let taken : c.taken_at-taken.result ≡ taken_in s.lines.items c.args.line = c.taken_at-taken.ensures ∙ ap (λ ls. taken_in ls c.args.line) c.deref-3.ensures.value in
    ap (λ l. before_step (buffer_of l c.first_waiting-self-inside.result c.push_late.new.late.items) (its_step c)) (is_marked c)
    ∙ ap (λ l. before_step (buffer_of (marked c.args.line c.args.key c.args.count s.entries.items) c.first_waiting-self-inside.result l) (its_step c)) (new_late c)
    ∙ ap (λ n. before_step (buffer_of (marked c.args.line c.args.key c.args.count s.entries.items) c.first_waiting-self-inside.result (s.late.items ++ record { stamp = c.args.key.stamp; first = s.first } ∷ [])) (Drain c.args.line n c.args.count)) taken
    ∙ undoes_drain c.args.line c.args.key c.args.count (taken_in s.lines.items c.args.line) c.first_waiting-self-inside.result s.entries.items s.late.items (record { stamp = c.args.key.stamp; first = s.first }) (c.self.invariant.now.by_line.taken c.args.line)

pub invariant_of-self-2 : goal.invariant_of-self-2
invariant_of-self-2 c =
    let s = c.self.inside in
    let long_lines : length c.add_taken.new.lines ≡ s.lines.len = omega arith in
    let new_lines = with_items_is s.lines c.add_taken.new.lines long_lines in
    let answers = c.answer_of-answer.ensures ∙ ap (λ (l : List Held). answer_among l c.args.line c.args.count) c.deref-2.ensures.value in
    let taking = sym c.is_taking.ensures ∙ c.if-not-is_taking.false in
    let enough = took_enough s.entries.items c.args.line c.args.count c.answer_of-answer.result answers taking in
    let below : All (λ h. IfSome h.drained (λ k. KeyBelow k c.args.key)) s.entries.items =
    subst (λ (k : Kept). All (λ h. IfSome h.drained (λ k. KeyBelow k c.args.key)) k.held) (sym c.self.view_is) c.requires in
    let after = c.first_waiting-self-inside.ensures ∙ ap (position_or_len is_waiting) (c.deref-4.ensures.value ∙ is_marked c) in
    let adds = adds_taken s.lines.items c.as_mut_slice-2.result.now c.add_taken.new.lines c.args.line c.args.count c.as_mut_slice-2.ensures.value c.add_taken.ensures.places c.add_taken.ensures.taken in
    let now = sound_drained s.entries.items s.ww s.wr s.first c.first_waiting-self-inside.result s.late.items s.lines.items c.add_taken.new.lines c.args.key c.args.line c.args.count
    (can_take s.entries.items c.args.key c.args.line c.args.count below (omega arith) enough) adds after c.self.invariant.now in
    subst (λ (l : List Line). HasPast (buffer_of (with_items s.entries c.set_drained.new.entries).items c.first_waiting-self-inside.result c.push_late.new.late.items) s.ww s.wr l c.keep_step.new.steps) (sym new_lines)
    (HasPast-stepped (buffer_of s.entries.items s.first s.late.items) (buffer_of (with_items s.entries c.set_drained.new.entries).items c.first_waiting-self-inside.result c.push_late.new.late.items)
    s.ww s.wr s.lines.items c.add_taken.new.lines s.steps c.keep_step.new.steps (its_step c) c.self.invariant (drains c)
    (subst (λ (l : List Held). IsSound l s.ww s.wr c.first_waiting-self-inside.result c.push_late.new.late.items c.add_taken.new.lines) (sym (is_marked c))
    (subst (λ (l : List Late). IsSound (marked c.args.line c.args.key c.args.count s.entries.items) s.ww s.wr c.first_waiting-self-inside.result l c.add_taken.new.lines) (sym (new_late c)) now))
    (leads c) (taken-back c.args.line c.args.count (taken_in s.lines.items) (taken_in c.add_taken.new.lines) adds.taken))

pub returns-clause-took : goal.returns-clause-took
returns-clause-took c =
    let s = c.self.inside in
    let answers = c.answer_of-answer.ensures ∙ ap (λ (l : List Held). answer_among l c.args.line c.args.count) (c.deref-2.ensures.value ∙ ap (λ (k : Kept). k.held) c.self.view_is) in
    took-if c.answer_of-answer.result (λ taking. λ actions stands. stands_drained c.args.self.now _ c.args.key c.args.line c.args.count actions
    (is_marked c ∙ ap (λ (k : Kept). marked c.args.line c.args.key c.args.count k.held) c.self.view_is)
    (ap (λ (k : Kept). k.ww) c.self.view_is) (ap (λ (k : Kept). k.wr) c.self.view_is)
    (took_enough c.args.self.now.held c.args.line c.args.count c.answer_of-answer.result answers taking) stands)

pub returns-clause-marks : goal.returns-clause-marks
returns-clause-marks c =
    let s = c.self.inside in
    let new = buffer_of (with_items s.entries c.set_drained.new.entries).items c.first_waiting-self-inside.result c.push_late.new.late.items in
    took-if c.answer_of-answer.result (λ taking. subst (λ (k : Kept). KeepsMarks k (kept_of new s.ww s.wr c.keep_step.new.steps)) c.self.view_is
    (KeepsMarks-stepped (buffer_of s.entries.items s.first s.late.items) new s.ww s.wr s.steps c.keep_step.new.steps (its_step c) (drains c) (leads c)))
