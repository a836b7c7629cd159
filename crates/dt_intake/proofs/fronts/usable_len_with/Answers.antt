use Rattle.std.proofs.Common.{sym, ◌∙◌}
use Rattle.dt_intake.proofs.FrontLaws.{usable_len-more, usable_len-same}
use Rattle.dt_intake.proofs.fronts.usable_len_with.Goals as goal

pub returns-then-goes_on : goal.returns-then-goes_on
returns-then-goes_on c = usable_len-more c.args.hart c.args.taken.now c.args.event.now c.args.usable_len c.requires (sym c.goes_on.ensures ∙ c.if-goes_on.true)

pub returns-else-goes_on : goal.returns-else-goes_on
returns-else-goes_on c = usable_len-same c.args.hart c.args.taken.now c.args.event.now c.args.usable_len c.requires (sym c.goes_on.ensures ∙ c.if-goes_on.false)
