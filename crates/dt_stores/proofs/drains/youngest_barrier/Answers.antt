use Rattle.std.proofs.Common.{◌∙◌}
use Rattle.dt_stores.proofs.Firsts.{greatest-at}
use Rattle.dt_stores.proofs.drains.youngest_barrier.Goals as goal

pub returns-in-Some : goal.returns-in-Some
returns-in-Some c = λ hs high at rise.
    c.barrier_at.ensures ∙ greatest-at c.args.entries.now hs c.args.places.now c.in-Some.place.now high at rise c.in-Some.ensures.value
