use Rattle.std.proofs.Common.{sym, ◌∙◌, ap, subst}
use Rattle.dt_step.specs.declared.plans.Planned.{Planned}
use Rattle.dt_step.specs.Alignment.{AccessesAligned}
use Rattle.dt_checks.specs.Retiring.{plan_check}
use Rattle.dt_checks.proofs.Retired.{IsRetired-passed}
use Rattle.dt_checks.proofs.retiring.retires.Goals as goal

pub returns-in-Some-clause-retired : goal.returns-in-Some-clause-retired
returns-in-Some-clause-retired c =
    let aligned = subst (λ (p : Planned). AccessesAligned p) c.plan.ensures.plan c.plan.ensures.aligned in
    IsRetired-passed c.args.a.now c.args.bits c.args.tag c.in-Some.i c.requires.instruction (sym c.meaning.ensures.meaning ∙ c.in-Some.is) aligned
    c.due_plan.result (c.due_plan.ensures ∙ ap (λ p. plan_check p c.args.tag) c.plan.ensures.plan)
