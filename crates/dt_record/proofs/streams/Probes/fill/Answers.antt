use Rattle.std.proofs.Common.{◌∙◌, arith, subst, sym, length, Option, IsNone, IsSome, ℕ, ◌∷◌, [], length-append, ap, refl, inr}
use Rattle.dt_record.specs.declared.streams.Next.{Next}
use Rattle.dt_record.proofs.Chains.{event_did_not_fail, continues-one, takes-one, continues-record, takes-record}
use Rattle.dt_record.proofs.streams.Probes.fill.Goals as goal

pub filling-preserved : goal.filling-preserved
filling-preserved g c = record {
  goes_on = subst (λ (o : Option Next). IsNone o) (sym c.in-Event.ensures.step.open_still) refl;
  headed = subst (λ (o : Option ℕ). IsSome o) (sym c.in-Event.ensures.step.harts_stay) c.filling.invariant.headed;
  step = continues-record _ _ _ _ _ _ c.push.ensures.records c.filling.invariant.step c.in-Event.ensures.step;
  told = takes-record _ _ _ _ _ _ c.push.ensures.records c.filling.invariant.told c.in-Event.ensures.told;
  some = inr (omega (arith, ap length c.push.ensures.records, length-append c.filling.block.records (c.in-Event.event ∷ [])));
  quiet = c.in-Event.ensures.quiet (event_did_not_fail c.in-Event.event) ∙ c.filling.invariant.quiet;
  same_origin = λ bytes origin. c.in-Event.ensures.same_origin bytes (c.filling.invariant.same_origin bytes origin);
  same_lent = c.in-Event.ensures.same_lent ∙ c.filling.invariant.same_lent;
}

pub returns-in-End-clause-step : goal.returns-in-End-clause-step
returns-in-End-clause-step g c = continues-one _ _ _ _ _ c.filling.invariant.step c.in-End.ensures.step

pub returns-in-End-clause-told : goal.returns-in-End-clause-told
returns-in-End-clause-told g c = takes-one _ _ _ _ _ c.filling.invariant.told c.in-End.ensures.told

pub returns-in-Malformed-clause-step : goal.returns-in-Malformed-clause-step
returns-in-Malformed-clause-step g c = continues-one _ _ _ _ _ c.filling.invariant.step c.in-Malformed.ensures.step

pub returns-in-Malformed-clause-told : goal.returns-in-Malformed-clause-told
returns-in-Malformed-clause-told g c = takes-one _ _ _ _ _ c.filling.invariant.told c.in-Malformed.ensures.told

pub returns-in-Limit-clause-step : goal.returns-in-Limit-clause-step
returns-in-Limit-clause-step g c = continues-one _ _ _ _ _ c.filling.invariant.step c.in-Limit.ensures.step

pub returns-in-Limit-clause-told : goal.returns-in-Limit-clause-told
returns-in-Limit-clause-told g c = takes-one _ _ _ _ _ c.filling.invariant.told c.in-Limit.ensures.told

pub returns-in-ReadFault-clause-step : goal.returns-in-ReadFault-clause-step
returns-in-ReadFault-clause-step g c = continues-one _ _ _ _ _ c.filling.invariant.step c.in-ReadFault.ensures.step

pub returns-in-ReadFault-clause-told : goal.returns-in-ReadFault-clause-told
returns-in-ReadFault-clause-told g c = takes-one _ _ _ _ _ c.filling.invariant.told c.in-ReadFault.ensures.told

pub returns-in-OutOfMemory-clause-step : goal.returns-in-OutOfMemory-clause-step
returns-in-OutOfMemory-clause-step g c = continues-one _ _ _ _ _ c.filling.invariant.step c.in-OutOfMemory.ensures.step

pub returns-in-OutOfMemory-clause-told : goal.returns-in-OutOfMemory-clause-told
returns-in-OutOfMemory-clause-told g c = takes-one _ _ _ _ _ c.filling.invariant.told c.in-OutOfMemory.ensures.told
