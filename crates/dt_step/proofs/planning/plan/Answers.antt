use Rattle.std.proofs.Common.{sym, ◌∙◌, subst}
use Rattle.dt_step.specs.declared.plans.Planned.{Planned}
use Rattle.dt_step.specs.Alignment.{AccessesAligned}
use Rattle.dt_step.proofs.Accesses.{legal_plan-aligned}
use Rattle.dt_step.proofs.planning.plan.Goals as goal

pub returns-in-None-clause-aligned : goal.returns-in-None-clause-aligned
returns-in-None-clause-aligned c =
    subst (λ (p : Planned). AccessesAligned p) (sym c.legal_plan.ensures.plan)
    (legal_plan-aligned c.args.a.now c.args.i c.args.bits c.requires.decoded (sym c.due_cause.ensures ∙ c.in-None.is))
