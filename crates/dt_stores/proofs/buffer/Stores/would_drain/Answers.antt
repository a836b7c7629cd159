use Rattle.std.proofs.Common.{◌≤◌, List, drop, filter, length, ap, ◌∙◌, sym, arith, subst}
use Rattle.dt_record.specs.Actions.{Held, is_waiting}
use Rattle.dt_stores.specs.declared.lines.Line.{Line}
use Rattle.dt_stores.specs.Draining.{is_waiting_on, answer_among}
use Rattle.dt_stores.specs.Indexed.{AreAt}
use Rattle.dt_stores.specs.Kept.{Kept}
use Rattle.dt_stores.specs.Lines.{places_in, taken_in}
use Rattle.dt_stores.proofs.Firsts.{first-within}
use Rattle.dt_stores.proofs.Keeping.{finds-waiting, taken-within}
use Rattle.dt_stores.proofs.PlanLaws.{answer_stands}
use Rattle.dt_stores.proofs.buffer.Stores.would_drain.Goals as goal

pub waiting_at-waiting-requires : goal.waiting_at-waiting-requires
waiting_at-waiting-requires c =
    let Within : List Line → Type 0 = λ lines. taken_in lines c.args.line ≤ length (places_in lines c.args.line) in
    subst Within (sym c.deref.ensures.value) (taken-within c.self.inside.entries.items c.self.inside.lines.items c.self.invariant.now.by_line c.args.line)

pub answer_of-requires-clause-waiting : goal.answer_of-requires-clause-waiting
answer_of-requires-clause-waiting c =
    let At : List Held → Type 0 = λ held. AreAt held c.waiting_at-waiting.result.now (filter (is_waiting_on c.args.line) held) in
    let places = c.waiting_at-waiting.ensures ∙ ap (λ (lines : List Line). drop (taken_in lines c.args.line) (places_in lines c.args.line)) c.deref.ensures.value in
    subst At (sym c.deref-2.ensures.value)
    (subst (λ l. AreAt c.self.inside.entries.items l (filter (is_waiting_on c.args.line) c.self.inside.entries.items)) (sym places)
    (finds-waiting c.self.inside.entries.items c.self.inside.lines.items c.self.invariant.now.by_line c.args.line))

pub answer_of-requires-clause-within : goal.answer_of-requires-clause-within
answer_of-requires-clause-within c = omega (arith, c.deref-2.ensures.len, first-within is_waiting c.self.inside.entries.items, c.self.invariant.now.firsts.now)

pub returns : goal.returns
returns c =
    answer_stands c.args.self.now c.args.line c.args.count c.answer_of.result
    (c.answer_of.ensures ∙ ap (λ (l : List Held). answer_among l c.args.line c.args.count) (c.deref-2.ensures.value ∙ ap (λ (k : Kept). k.held) c.self.view_is))
