use Rattle.std.proofs.Common.{slice_get, ap, ◌∙◌}
use Rattle.std.specs.Option.{option_and_then}
use Rattle.dt_stores.proofs.PlacesOn.{at-index}
use Rattle.dt_stores.proofs.searches.store_among.Goals as goal

pub returns-in-Some : goal.returns-in-Some
returns-in-Some c = λ hs at. c.store_at.ensures ∙ ap (option_and_then (slice_get c.args.entries.now)) c.in-Some.ensures ∙ at-index c.args.entries.now hs c.args.places.now c.args.i at

pub returns-in-None : goal.returns-in-None
returns-in-None c = λ hs at. ap (option_and_then (slice_get c.args.entries.now)) c.in-None.ensures ∙ at-index c.args.entries.now hs c.args.places.now c.args.i at
