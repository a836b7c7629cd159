use Rattle.std.proofs.Common.{◌≡◌, ◌≤◌, length, take, refl, arith, length-take}
use Rattle.dt_sources.proofs.TriedMoments.{AreKnown, known_front, known_for, least_tried, none_tried, sources_tried, place_is_narrow}
use Rattle.dt_sources.proofs.finding.find.Goals as goal

pub returns-in-Some-clause-least : goal.returns-in-Some-clause-least
returns-in-Some-clause-least c = λ actions stands apart.
    let within : c.from.result ≤ length c.known_bytes-known.result = omega (arith, place_is_narrow c.args.ask c.requires.place) in
    let known : AreKnown actions c.args.l.now c.args.ask.at c.args.ask.addr c.known_bytes-known.result =
    record { own = c.known_bytes-known.ensures.own actions stands; newest = c.known_bytes-known.ensures.newest } in
    let found = c.in-Some.ensures.least in
    least_tried c.args.m.now actions c.args.l.now c.args.ask c.visible.result.first c.visible.result.last c.in-Some.moment (take c.from.result c.known_bytes-known.result)
    (known_for actions c.args.l.now c.args.ask c.from.result c.known_bytes-known.result apart c.from.ensures within known)
    c.visible.ensures.visible found.0 found.1 found.2 found.3

pub returns-in-Some-clause-sources : goal.returns-in-Some-clause-sources
returns-in-Some-clause-sources c = λ actions stands.
    let within : c.from.result ≤ length c.known_bytes-known.result = omega (arith, place_is_narrow c.args.ask c.requires.place) in
    let known : AreKnown actions c.args.l.now c.args.ask.at c.args.ask.addr c.known_bytes-known.result =
    record { own = c.known_bytes-known.ensures.own actions stands; newest = c.known_bytes-known.ensures.newest } in
    let long : length (take c.from.result c.known_bytes-known.result) ≡ c.args.ask.width = omega (arith, length-take c.from.result c.known_bytes-known.result) in
    record {
      count = refl;
      from = λ i inside. sources_tried c.args.m.now actions c.args.l.now c.args.ask c.in-Some.moment (take c.from.result c.known_bytes-known.result) c.origins_at.result
          (known_front actions c.args.l.now c.args.ask.at c.args.ask.addr c.from.result c.known_bytes-known.result known) c.origins_at.ensures.from i (omega arith);
      no_more = λ i past inside. c.origins_at.ensures.no_more i (omega arith) inside;
    }

pub returns-in-None-clause-nowhere : goal.returns-in-None-clause-nowhere
returns-in-None-clause-nowhere c = λ actions stands apart.
    let within : c.from.result ≤ length c.known_bytes-known.result = omega (arith, place_is_narrow c.args.ask c.requires.place) in
    let known : AreKnown actions c.args.l.now c.args.ask.at c.args.ask.addr c.known_bytes-known.result =
    record { own = c.known_bytes-known.ensures.own actions stands; newest = c.known_bytes-known.ensures.newest } in
    none_tried c.args.m.now actions c.args.l.now c.args.ask c.visible.result.first c.visible.result.last (take c.from.result c.known_bytes-known.result)
    (known_for actions c.args.l.now c.args.ask c.from.result c.known_bytes-known.result apart c.from.ensures within known)
    c.visible.ensures.visible c.in-None.ensures.least
