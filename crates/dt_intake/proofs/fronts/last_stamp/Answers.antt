use Rattle.std.proofs.Common.{sym, ap, ◌∙◌}
use Rattle.std.specs.Option.{option_copied}
use Rattle.dt_intake.proofs.FrontLaws.{last_stamp-some}
use Rattle.dt_intake.proofs.fronts.last_stamp.Goals as goal

pub returns-in-Some : goal.returns-in-Some
returns-in-Some c = sym (last_stamp-some 0 c.args.records.now c.in-Some.event.now (sym c.last.ensures.value ∙ ap option_copied c.in-Some.is))
