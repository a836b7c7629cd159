use Rattle.std.proofs.Common.{Some, None, if◌then◌else◌, List, option_map, filter, find, slice_get, ap, ◌∙◌, sym, subst}
use Rattle.std.specs.Option.{option_and_then}
use Rattle.dt_record.specs.Actions.{Held, is_on, is_undrained}
use Rattle.dt_stores.specs.declared.answers.Which.{Which}
use Rattle.dt_stores.specs.declared.late.Late.{Late}
use Rattle.dt_stores.specs.declared.lines.Line.{Line}
use Rattle.dt_stores.specs.Indexed.{AreAt, on_line}
use Rattle.dt_stores.specs.Kept.{Kept}
use Rattle.dt_stores.specs.Late.{first_at}
use Rattle.dt_stores.specs.Lines.{places_in}
use Rattle.dt_stores.specs.Oldest.{is_asked}
use Rattle.dt_stores.proofs.Keeping.{finds-line}
use Rattle.dt_stores.proofs.SearchLaws.{oldest_stands}
use Rattle.dt_stores.proofs.Searching.{oldest-on, asked-first}
use Rattle.dt_stores.proofs.buffer.Stores.oldest.Goals as goal

pub returns-in-Line : goal.returns-in-Line
returns-in-Line c =
    let places = c.places_at.ensures ∙ ap (λ (lines : List Line). places_in lines c.in-Line.line) c.deref-in-Line.ensures.value in
    let at : AreAt c.deref.result.now c.places_at.result.now (on_line c.in-Line.line c.self.inside.entries.items) =
    subst (λ l. AreAt l c.places_at.result.now (on_line c.in-Line.line c.self.inside.entries.items)) (sym c.deref.ensures.value)
    (subst (λ l. AreAt c.self.inside.entries.items l (on_line c.in-Line.line c.self.inside.entries.items)) (sym places)
    (finds-line c.self.inside.entries.items c.self.inside.lines.items c.self.invariant.now.by_line c.in-Line.line)) in
    let split = c.self.invariant.now.order.drained c.in-Line.line c.args.at in
    oldest_stands c.args.self.now c.args.which c.args.at c.oldest_from.result
    (c.oldest_from.ensures (on_line c.in-Line.line c.self.inside.entries.items) split.0 at split.1
    ∙ ap (option_map (λ (h : Held). h.store.seq)) (oldest-on c.in-Line.line c.args.at c.self.inside.entries.items)
    ∙ ap (λ (k : Kept). option_map (λ (h : Held). h.store.seq) (find (λ h. is_on c.in-Line.line h.store) (filter (is_undrained c.args.at) k.held))) c.self.view_is
    ∙ ap (λ (w : Which). option_map (λ (h : Held). h.store.seq) (find (is_asked c.args.self.now.ww c.args.self.now.wr w) (filter (is_undrained c.args.at) c.args.self.now.held))) (sym c.in-Line.is))

pub returns-in_default : goal.returns-in_default
returns-in_default c =
    let place = c.first_in_cycle-place.ensures ∙ ap (λ (l : List Late). first_at l c.self.inside.first c.args.at) c.deref-in_default.ensures.value ∙ c.self.invariant.now.firsts.earlier c.args.at in
    oldest_stands c.args.self.now c.args.which c.args.at c.asked_at.result
    (c.asked_at.ensures
    ∙ ap (λ (l : List Held). option_and_then (λ (h : Held). if is_asked c.self.inside.ww c.self.inside.wr c.args.which h then Some h.store.seq else None) (slice_get l c.first_in_cycle-place.result)) c.deref-in_default-2.ensures.value
    ∙ asked-first c.self.inside.ww c.self.inside.wr c.args.which c.args.at c.first_in_cycle-place.result c.self.inside.entries.items c.self.invariant.now.order.barriers c.self.invariant.now.order.readers c.in_default.not-Line place
    ∙ ap (λ (k : Kept). option_map (λ (h : Held). h.store.seq) (find (is_asked k.ww k.wr c.args.which) (filter (is_undrained c.args.at) k.held))) c.self.view_is)
