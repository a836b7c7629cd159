use Rattle.std.proofs.Common.{◌∙◌, arith}
use Rattle.dt_stores.proofs.Merging.{merges_next, mask_of_all}
use Rattle.dt_stores.proofs.drains.mask_of.Goals as goal

pub loop-place-preserved : goal.loop-place-preserved
loop-place-preserved c =
    merges_next c.args.entries.now c.args.places.now c.loop-place.place-index c.mask_at-mask.result c.loop-place.mask 0 (omega arith) c.mask_at-mask.ensures ∙ c.loop-place.invariant

pub returns : goal.returns
returns c = λ line hs at on.
    mask_of_all line c.args.entries.now hs c.args.places.now c.loop-place.place-index c.loop-place.mask at on (omega arith) c.loop-place.invariant
