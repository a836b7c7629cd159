use Rattle.std.proofs.Common.{refl, sym, ◌∙◌}
use Rattle.std.specs.Prelude.{◌≡◌, None}
use Rattle.dt_step.specs.Causes.{due_cause, due_tval}
use Rattle.dt_step.specs.Plans.{IsFinishable}
use Rattle.dt_reference.specs.Meaning.{meaning_of}
use Rattle.dt_reference.proofs.Retiring.{none_is_due, some_and}
use Rattle.dt_reference.proofs.states.can_retire.Goals as goal

pub returns-in_default : goal.returns-in_default
returns-in_default c = (
  (λ _. record {
    instruction = c.requires.instruction;
    legal = some_and (meaning_of c.args.bits) c.in-Some.i (λ i. due_cause c.args.a.now i ≡ None) (sym c.meaning.ensures.meaning ∙ c.in-Some.is)
        (none_is_due (IsFinishable c.plan.result) (due_cause c.args.a.now c.in-Some.i) (due_tval c.args.a.now c.in-Some.i c.args.bits) c.plan.ensures.due c.in_default.not-Raises);
  }),
  (λ _. refl),
)
