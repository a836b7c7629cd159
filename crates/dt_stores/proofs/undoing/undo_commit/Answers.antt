use Rattle.std.proofs.Common.{subst}
use Rattle.dt_stores.specs.Lines.{places_in, FindPlaces, SetsPlaces}
use Rattle.dt_stores.specs.Past.{without_last}
use Rattle.dt_stores.proofs.Releasing.{undoes_place}
use Rattle.dt_stores.proofs.undoing.undo_commit.Goals as goal

pub returns-in-Some-clause-places : goal.returns-in-Some-clause-places
returns-in-Some-clause-places c =
    undoes_place c.pop.new.self.items c.in-Some.e c.args.lines.now c.drop_place.new.lines
    (subst (FindPlaces c.args.lines.now) c.in-Some.ensures.items c.requires)
    (subst (λ n. SetsPlaces c.args.lines.now c.drop_place.new.lines n (without_last (places_in c.args.lines.now n))) c.line.ensures c.drop_place.ensures.places)
