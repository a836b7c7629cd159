use Rattle.std.proofs.Common.{◌≡◌, ◌∙◌, arith}
use Rattle.std.proofs.lemmas.Grind.{common_steps}
use Rattle.dt_step.specs.Steps.{finish_of}
use Rattle.dt_step.proofs.StepLemmas.{plan_step}
use Rattle.dt_step.proofs.finishing.finish.Goals as goal

pub returns-in-Csr-clause-step : goal.returns-in-Csr-clause-step
returns-in-Csr-clause-step c = λ i bits d e l.
    let state : c.go_further.new.a ≡ finish_of c.args.a.now c.args.len c.args.p c.args.answer = grind (arith, common_steps) in
    state ∙ plan_step c.args.a.now i bits c.args.len c.args.p c.args.answer c.requires.plan e l

pub returns-in-NeedsStore-clause-step : goal.returns-in-NeedsStore-clause-step
returns-in-NeedsStore-clause-step c = λ i bits d e l.
    let state : c.go_further-in-NeedsStore.new.a ≡ finish_of c.args.a.now c.args.len c.args.p c.args.answer = grind (arith, common_steps) in
    state ∙ plan_step c.args.a.now i bits c.args.len c.args.p c.args.answer c.requires.plan e l

pub returns-in-NeedsLoad-clause-step : goal.returns-in-NeedsLoad-clause-step
returns-in-NeedsLoad-clause-step c = λ i bits d e l.
    let state : c.go_further-in-NeedsLoad.new.a ≡ finish_of c.args.a.now c.args.len c.args.p c.args.answer = grind (arith, common_steps) in
    state ∙ plan_step c.args.a.now i bits c.args.len c.args.p c.args.answer c.requires.plan e l
