use Rattle.std.proofs.Common.{[], refl, ◌++◌}
use Rattle.dt_probe_file.specs.Fronts.{reading_of}
use Rattle.dt_probe_file.specs.Computing.{answers_after}
use Rattle.dt_probe_file.proofs.Origins.{keep_event}
use Rattle.dt_probe_file.proofs.Stepping.{limit_over, event_over, takes_record}
use Rattle.dt_probe_file.proofs.steps.step_over.Goals as goal

pub returns-in-Some-clause-told : goal.returns-in-Some-clause-told
returns-in-Some-clause-told c rest =
    ([], limit_over (reading_of c.args.opened.now) c.args.held.now c.args.event.now c.args.len c.in-Some.what c.limit_number-number.result c.requires.front c.in-Some.ensures c.limit_number-number.ensures rest, refl)

pub returns-in-None-clause-told : goal.returns-in-None-clause-told
returns-in-None-clause-told c rest = (
  answers_after (reading_of c.advanced-after.result) (c.take_away.new.self ++ rest),
  event_over (reading_of c.args.opened.now) (reading_of c.advanced-after.result) c.args.held.now c.take_away.new.self c.args.event.now c.args.len c.requires.front c.in-None.ensures c.advanced-after.ensures.reading c.take_away.ensures rest,
  refl,
)

pub returns-in-None-clause-step : goal.returns-in-None-clause-step
returns-in-None-clause-step c =
    takes_record c.args.opened.now c.advanced-after.result c.args.event.now c.requires.front.0.next c.in-None.ensures c.advanced-after.ensures.reading c.advanced-after.ensures.harts c.advanced-after.ensures.wide

pub returns-in-None-clause-keeps : goal.returns-in-None-clause-keeps
returns-in-None-clause-keeps c left =
    keep_event c.args.opened.now c.advanced-after.result c.args.event.now c.args.len c.args.held.now c.take_away.new.self left c.requires.front c.in-None.ensures c.advanced-after.ensures.reading c.advanced-after.ensures.harts c.advanced-after.ensures.wide c.take_away.ensures
