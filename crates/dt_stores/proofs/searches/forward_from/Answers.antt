use Rattle.std.proofs.Common.{option_map, Bool, length, ap, ◌∙◌, sym, arith, Some}
use Rattle.dt_record.specs.Actions.{Held, is_undrained, store_covers}
use Rattle.dt_stores.specs.Draining.{forward_of}
use Rattle.dt_stores.proofs.PlacesOn.{at-length}
use Rattle.dt_stores.proofs.Searching.{youngest, stops, hits, misses, no-youngest}
use Rattle.dt_stores.proofs.searches.forward_from.Goals as goal

pub returns-in_err-e : goal.returns-in_err-e
returns-in_err-e c = λ hs at.
    no-youngest hs (length c.args.places.now) c.loop-i.i (at-length c.args.entries.now hs c.args.places.now at) (omega arith) (c.in_err-e.ensures hs at)

pub returns-then-not-is_undrained : goal.returns-then-not-is_undrained
returns-then-not-is_undrained c = λ hs at.
    let covers : Held → Bool = λ h. store_covers c.args.addr h.store in
    let young = youngest hs (length c.args.places.now) c.loop-i.i c.in_ok-e.e.now (at-length c.args.entries.now hs c.args.places.now at) (omega arith) (c.in_ok-e.ensures hs at) in
    ap (option_map (forward_of c.args.addr)) (sym (stops covers (is_undrained c.args.at) hs (length c.args.places.now) c.loop-i.i c.in_ok-e.e.now young (sym c.if-not-is_undrained.ensures)) ∙ c.loop-i.invariant hs at)

pub returns-then-covers : goal.returns-then-covers
returns-then-covers c = λ hs at.
    let covers : Held → Bool = λ h. store_covers c.args.addr h.store in
    let young = youngest hs (length c.args.places.now) c.loop-i.i c.in_ok-e.e.now (at-length c.args.entries.now hs c.args.places.now at) (omega arith) (c.in_ok-e.ensures hs at) in
    ap Some c.forward.ensures
    ∙ ap (option_map (forward_of c.args.addr)) (sym (hits covers (is_undrained c.args.at) hs (length c.args.places.now) c.loop-i.i c.in_ok-e.e.now young (sym c.if-not-is_undrained.ensures) (sym c.if-covers.ensures)) ∙ c.loop-i.invariant hs at)

pub loop-i-preserved : goal.loop-i-preserved
loop-i-preserved c = λ hs at.
    let covers : Held → Bool = λ h. store_covers c.args.addr h.store in
    let young = youngest hs (length c.args.places.now) c.loop-i.i c.in_ok-e.e.now (at-length c.args.entries.now hs c.args.places.now at) (omega arith) (c.in_ok-e.ensures hs at) in
    sym (misses covers (is_undrained c.args.at) hs (length c.args.places.now) c.loop-i.i c.in_ok-e.e.now young (sym c.if-not-is_undrained.ensures) (sym c.if-covers.ensures)) ∙ c.loop-i.invariant hs at
