use Rattle.std.proofs.Common.{arith}
use Rattle.dt_stores.proofs.MergedBytes.{bytes_of_all}
use Rattle.dt_stores.proofs.drains.bytes_of.Goals as goal

pub returns : goal.returns
returns c = λ line hs at on.
    bytes_of_all line c.args.entries.now hs c.args.places.now c.loop-place.place-index c.loop-place.bytes at on (omega arith) c.loop-place.invariant
