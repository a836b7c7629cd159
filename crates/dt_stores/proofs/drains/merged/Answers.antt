use Rattle.std.proofs.Common.{◌∙◌, ap}
use Rattle.dt_stores.specs.declared.answers.DrainAnswer.TheVariants.{Took}
use Rattle.dt_stores.specs.Draining.{mask_over}
use Rattle.dt_stores.proofs.drains.merged.Goals as goal

pub returns : goal.returns
returns c = λ line hs at on.
    ap (λ mask. Took mask c.bytes_of.result) (c.mask_of.ensures line hs at on) ∙ ap (λ bytes. Took (mask_over line hs) bytes) (c.bytes_of.ensures line hs at on)
