use Rattle.std.proofs.Common.{◌==◌, ◌∙◌, cond, None, ap}
use Rattle.std.specs.List.{slice_get}
use Rattle.std.specs.Int.{w8, bit_at}
use Rattle.std.proofs.lemmas.Nat.Bits.{bit_at_set_same, bit_at_set_other}
use Rattle.dt_local.proofs.slots.set_byte.Goals as goal

pub returns-clause-here : goal.returns-clause-here
returns-clause-here c =
    ap (λ bit. cond (bit == 1) (slice_get c.set_key.new.keys c.args.place) None) (bit_at_set_same w8 c.args.slot.now.mask c.args.place c.requires)
    ∙ c.set_key.ensures.here

pub returns-clause-others : goal.returns-clause-others
returns-clause-others c = λ other within apart.
    ap (λ bit. cond (bit == 1) (slice_get c.set_key.new.keys other) None) (bit_at_set_other w8 c.args.slot.now.mask c.args.place c.requires other apart)
    ∙ ap (λ k. cond (bit_at c.args.slot.now.mask other == 1) k None) (c.set_key.ensures.others other within apart)
