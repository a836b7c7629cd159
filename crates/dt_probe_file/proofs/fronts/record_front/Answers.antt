use Rattle.dt_probe_file.specs.Fronts.{reading_of}
use Rattle.dt_probe_file.proofs.Deciding.{wrong_of_got, begun_of_short, wrong_of_bad}
use Rattle.dt_probe_file.proofs.fronts.record_front.Goals as goal

pub returns-else-may_follow : goal.returns-else-may_follow
returns-else-may_follow c =
    wrong_of_got (reading_of c.args.opened.now) c.args.bytes.now c.in-Got.event c.in-Got.len c.requires.tag c.in-Got.ensures (λ h. let t = c.if-may_follow.ensures.1 h in cc)

pub returns-in-Short : goal.returns-in-Short
returns-in-Short c = begun_of_short (reading_of c.args.opened.now) c.args.bytes.now c.requires.tag c.in-Short.ensures

pub returns-in-Bad : goal.returns-in-Bad
returns-in-Bad c = wrong_of_bad (reading_of c.args.opened.now) c.args.bytes.now c.in-Bad.at c.requires.tag c.requires.some c.in-Bad.ensures
