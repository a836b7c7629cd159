use Rattle.std.proofs.Common.{List, option_map, filter, find, reverse, ap, ◌∙◌, sym, subst}
use Rattle.dt_record.specs.Memory.{line_of}
use Rattle.dt_record.specs.Actions.{is_undrained, store_covers}
use Rattle.dt_stores.specs.declared.lines.Line.{Line}
use Rattle.dt_stores.specs.Draining.{forward_of}
use Rattle.dt_stores.specs.Indexed.{AreAt, on_line}
use Rattle.dt_stores.specs.Kept.{Kept}
use Rattle.dt_stores.specs.Lines.{places_in}
use Rattle.dt_stores.proofs.Keeping.{finds-line}
use Rattle.dt_stores.proofs.SearchLaws.{forward_stands}
use Rattle.dt_stores.proofs.Searching.{forwards}
use Rattle.dt_stores.proofs.buffer.Stores.forward.Goals as goal

pub returns : goal.returns
returns c =
    let places = c.places_at.ensures ∙ ap (λ (lines : List Line). places_in lines c.line_of.result) c.deref-2.ensures.value ∙ ap (places_in c.self.inside.lines.items) c.line_of.ensures in
    let at : AreAt c.deref.result.now c.places_at.result.now (on_line (line_of c.args.addr) c.self.inside.entries.items) =
    subst (λ l. AreAt l c.places_at.result.now (on_line (line_of c.args.addr) c.self.inside.entries.items)) (sym c.deref.ensures.value)
    (subst (λ l. AreAt c.self.inside.entries.items l (on_line (line_of c.args.addr) c.self.inside.entries.items)) (sym places)
    (finds-line c.self.inside.entries.items c.self.inside.lines.items c.self.invariant.now.by_line (line_of c.args.addr))) in
    let split = c.self.invariant.now.order.drained (line_of c.args.addr) c.args.at in
    forward_stands c.args.self.now c.args.addr c.args.at c.forward_from.result
    (c.forward_from.ensures (on_line (line_of c.args.addr) c.self.inside.entries.items) at
    ∙ ap (option_map (forward_of c.args.addr)) (forwards c.args.addr c.args.at split.0 c.self.inside.entries.items c.self.invariant.now.order.placed split.1)
    ∙ ap (λ (k : Kept). option_map (forward_of c.args.addr) (find (λ h. store_covers c.args.addr h.store) (reverse (filter (is_undrained c.args.at) k.held)))) c.self.view_is)
