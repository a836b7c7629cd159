use Rattle.std.proofs.Common.{ap, ◌∙◌, sym}
use Rattle.dt_stores.specs.Indexed.{places_on}
use Rattle.dt_stores.proofs.PlacesOn.{released_by}
use Rattle.dt_stores.proofs.Releasing.{released-places}
use Rattle.dt_stores.proofs.undoing.undo_drain.Goals as goal

pub returns-clause-entries : goal.returns-clause-entries
returns-clause-entries c =
    released_by c.args.entries.now c.set_drained.new.entries c.places_at.result.now c.part-places.result.now c.args.line c.args.taken c.args.count c.from.result
    (c.places_at.ensures ∙ c.requires c.args.line) c.part-places.ensures c.from.ensures c.set_drained.ensures

pub returns-clause-places : goal.returns-clause-places
returns-clause-places c = λ line.
    let released = released_by c.args.entries.now c.set_drained.new.entries c.places_at.result.now c.part-places.result.now c.args.line c.args.taken c.args.count c.from.result
    (c.places_at.ensures ∙ c.requires c.args.line) c.part-places.ensures c.from.ensures c.set_drained.ensures in
    c.drop_taken.ensures.places line ∙ c.requires line
    ∙ sym (ap (places_on line) released ∙ released-places line c.args.line c.args.taken c.args.count c.args.entries.now)
