use Rattle.std.proofs.Common.{ap, ◌∙◌, arith}
use Rattle.dt_stores.specs.declared.lines.Line.{Line}
use Rattle.dt_stores.proofs.RamLines.{same_places, same_taken, has_room}
use Rattle.dt_stores.proofs.lines.make_room.Goals as goal

pub returns-in_err-reserve-clause-places : goal.returns-in_err-reserve-clause-places
returns-in_err-reserve-clause-places c = λ other.
    same_places c.grow.new.lines.items c.args.line other c.place_of-place.result _ c.index_mut-l.result.now c.requires c.place_of-place.ensures (omega (arith, c.in_ok-grow.ensures.there))
    (c.in_err-reserve.ensures.items ∙ ap (λ (l : Line). l.places.items) c.index_mut-l.ensures.value)
    ∙ c.in_ok-grow.ensures.places other

pub returns-in_err-reserve-clause-taken : goal.returns-in_err-reserve-clause-taken
returns-in_err-reserve-clause-taken c = λ other.
    same_taken c.grow.new.lines.items c.args.line other c.place_of-place.result _ c.index_mut-l.result.now c.requires c.place_of-place.ensures (omega (arith, c.in_ok-grow.ensures.there))
    (ap (λ (l : Line). l.taken) c.index_mut-l.ensures.value)
    ∙ c.in_ok-grow.ensures.taken other

pub returns-clause-places : goal.returns-clause-places
returns-clause-places c = λ other.
    same_places c.grow.new.lines.items c.args.line other c.place_of-place.result _ c.index_mut-l.result.now c.requires c.place_of-place.ensures (omega (arith, c.in_ok-grow.ensures.there))
    (c.in_ok-reserve.ensures.items ∙ ap (λ (l : Line). l.places.items) c.index_mut-l.ensures.value)
    ∙ c.in_ok-grow.ensures.places other

pub returns-clause-taken : goal.returns-clause-taken
returns-clause-taken c = λ other.
    same_taken c.grow.new.lines.items c.args.line other c.place_of-place.result _ c.index_mut-l.result.now c.requires c.place_of-place.ensures (omega (arith, c.in_ok-grow.ensures.there))
    (ap (λ (l : Line). l.taken) c.index_mut-l.ensures.value)
    ∙ c.in_ok-grow.ensures.taken other

pub returns-clause-room : goal.returns-clause-room
returns-clause-room c =
    has_room c.grow.new.lines.items c.args.line c.place_of-place.result _ c.requires c.place_of-place.ensures (omega (arith, c.in_ok-grow.ensures.there)) (omega (arith, c.in_ok-reserve.ensures.ok))
