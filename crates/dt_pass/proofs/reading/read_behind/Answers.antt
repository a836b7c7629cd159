use Rattle.std.proofs.Common.{List, refl, sym, subst, arith, ◌∙◌}
use Rattle.dt_record.specs.declared.records.Record.{Record}
use Rattle.dt_reading.specs.Reading.{with_header}
use Rattle.dt_reading.specs.Underway.{IsUnderway}
use Rattle.dt_reading.proofs.Underway.{accepted, after_record, at_end, refused}
use Rattle.dt_pass.proofs.reading.read_behind.Goals as goal

pub loop-event-preserved : goal.loop-event-preserved
loop-event-preserved g c =
    let left = g.P.Probes.left in
    let told = with_header c.args.harts c.args.wide (left c.args.probes.now) in
    let new = g.P.Probes.progress c.next.new.self in
    record {
      underway =
          subst (λ (rs : List Record). IsUnderway told (left c.next.new.self) c.args.harts c.args.wide rs new) (sym c.in-Ok.ensures.items)
          (after_record _ _ _ _ _ _ _ _ c.in-Event.event c.loop-event.invariant.underway c.in-Event.ensures.told c.in-Event.ensures.step);
      headed = c.in-Event.ensures.step.harts_stay ∙ c.loop-event.invariant.headed;
      counted = omega (arith, c.loop-event.invariant.counted, c.in-Event.ensures.rising);
      same_origin = λ bytes origin. c.in-Event.ensures.same_origin bytes (c.loop-event.invariant.same_origin bytes origin);
      same_lent = c.in-Event.ensures.same_lent ∙ c.loop-event.invariant.same_lent;
    }

pub returns-in-End-clause-came : goal.returns-in-End-clause-came
returns-in-End-clause-came g c = at_end _ _ _ _ c.in-End.count _ _ _ _ c.loop-event.invariant.underway c.in-End.ensures.told c.in-End.ensures.step

pub returns-in-End-clause-accepted : goal.returns-in-End-clause-accepted
returns-in-End-clause-accepted g c =
    accepted _ _ _ _ _ (at_end _ _ _ _ c.in-End.count _ _ _ _ c.loop-event.invariant.underway c.in-End.ensures.told c.in-End.ensures.step)

pub returns-in-Malformed-clause-refused : goal.returns-in-Malformed-clause-refused
returns-in-Malformed-clause-refused g c = λ read memory.
    refused _ _ _ _ _ _ _ _ _ c.loop-event.invariant.underway c.in-Malformed.ensures.told (λ e. cc) (λ e. cc) (λ more. refl)

pub returns-in-Limit-clause-refused : goal.returns-in-Limit-clause-refused
returns-in-Limit-clause-refused g c = λ read memory.
    refused _ _ _ _ _ _ _ _ _ c.loop-event.invariant.underway c.in-Limit.ensures.told (λ e. cc) (λ e. cc) (λ more. refl)
