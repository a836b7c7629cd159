use Rattle.std.proofs.Common.{Bool, Ok, Some, ap}
use Rattle.dt_probe_file.proofs.AskingFor.{only_end}
use Rattle.dt_probe_file.proofs.Origins.{keep_end}
use Rattle.dt_probe_file.proofs.Stepping.{end_followed, end_alone}
use Rattle.dt_probe_file.proofs.steps.step_end.Goals as goal

pub returns-in-Ok-true-clause-told : goal.returns-in-Ok-true-clause-told
returns-in-Ok-true-clause-told g c =
    end_followed c.args.opened.now c.args.held.now c.take_away.new.self c.is_more.new.held _ _ c.requires.front c.take_away.ensures c.in-Ok-true.ensures.whole (c.in-Ok-true.ensures.more (ap (λ (b : Bool). Ok b) c.in-Ok-true.field-0-test))

pub returns-in-Ok-false-clause-told : goal.returns-in-Ok-false-clause-told
returns-in-Ok-false-clause-told g c =
    let none = c.in-Ok-false.ensures.none (ap (λ (b : Bool). Ok b) c.in-Ok-false.field-0-test) in
    end_alone c.args.opened.now c.args.held.now c.take_away.new.self c.is_more.new.held _ _ c.requires.front c.take_away.ensures c.in-Ok-false.ensures.whole none.0 none.1

pub returns-in-Err-clause-needed : goal.returns-in-Err-clause-needed
returns-in-Err-clause-needed g c = λ _.
    let held = c.in-Err.ensures.needed in
    (only_end c.args.opened.now c.args.held.now c.take_away.new.self c.requires.front c.take_away.ensures held.0, held.1)

pub returns-in-Ok-true-clause-keeps : goal.returns-in-Ok-true-clause-keeps
returns-in-Ok-true-clause-keeps g c = keep_end (Some c.args.opened.now) (Some c.args.opened.now) _ _ _ _ _ _ c.in-Ok-true.ensures.reads.2
