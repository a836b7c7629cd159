use Rattle.std.proofs.Common.{◌+◌, get_or, ap, sym, ◌∙◌, subst, arith}
use Rattle.std.proofs.lemmas.Bool.{eq-eqb, ne_eqb}
use Rattle.std.proofs.lemmas.List.{drop_all}
use Rattle.dt_record.specs.Keys.{records_of}
use Rattle.dt_record.specs.Writes.{writes_of}
use Rattle.dt_pass.proofs.HartRuns.{HasPassed, has_one, is_ready, judged_next, not_failed, passed_by, run_of_all}
use Rattle.dt_runs.proofs.OwnRecords.{any_record}
use Rattle.dt_pass.proofs.running.run_one.Goals.{then-event-number+in_ok-judge+else-has_failed, else-event-number}
use Rattle.dt_pass.proofs.running.run_one.Goals as goal

pub loop-event-init : goal.loop-event-init
loop-event-init c = record {
  number = c.new-run.ensures.number;
  goes_on = c.new-run.ensures.nothing_yet.0;
  runs = c.new-run.ensures.opens c.args.m.now.image (writes_of c.args.records.now);
}

pub judge-requires-clause-lawful : goal.judge-requires-clause-lawful
judge-requires-clause-lawful c =
    (is_ready c.args.m.now c.args.wide c.args.number c.args.records.now c.loop-event.event-index c.loop-event.run c.file_records_are_own.ensures c.requires c.loop-event-test.true
    (eq-eqb (get_or c.args.records.now c.loop-event.event-index any_record).hart c.args.number c.if-event-number.true) c.loop-event.invariant).lawful

pub judge-requires-clause-in_time : goal.judge-requires-clause-in_time
judge-requires-clause-in_time c =
    (is_ready c.args.m.now c.args.wide c.args.number c.args.records.now c.loop-event.event-index c.loop-event.run c.file_records_are_own.ensures c.requires c.loop-event-test.true
    (eq-eqb (get_or c.args.records.now c.loop-event.event-index any_record).hart c.args.number c.if-event-number.true) c.loop-event.invariant).in_time

pub judge-requires-clause-room : goal.judge-requires-clause-room
judge-requires-clause-room c =
    (is_ready c.args.m.now c.args.wide c.args.number c.args.records.now c.loop-event.event-index c.loop-event.run c.file_records_are_own.ensures c.requires c.loop-event-test.true
    (eq-eqb (get_or c.args.records.now c.loop-event.event-index any_record).hart c.args.number c.if-event-number.true) c.loop-event.invariant).room

pub returns-then-has_failed : goal.returns-then-has_failed
returns-then-has_failed c =
    let i = c.loop-event.event-index in
    let its = eq-eqb (get_or c.args.records.now i any_record).hart c.args.number c.if-event-number.true in
    run_of_all c.args.m.now c.args.wide c.args.number c.args.records.now (i + 1) c.judge.new.self c.runs_come_to_an_end.ensures (c.in_ok-judge.ensures.number ∙ c.loop-event.invariant.number)
    (judged_next c.args.m.now c.args.wide c.args.number c.args.records.now i c.loop-event.run c.judge.new.self c.file_records_are_own.ensures c.requires c.loop-event-test.true its c.loop-event.invariant c.in_ok-judge.ensures.runs)
    (λ none. absurd (has_one c.judge.new.self.failure (sym c.has_failed.ensures ∙ c.if-has_failed.true) none))

pub loop-event-preserved : goal.loop-event-preserved
loop-event-preserved c =
    let i = c.loop-event.event-index in
    let r = get_or c.args.records.now i any_record in
    let passed = HasPassed c.args.m.now c.args.wide c.args.number c.args.records.now (i + 1) in
    elim c.if-event-number.branch [
      | then-event-number+in_ok-judge+else-has_failed w ↦
          let its = eq-eqb r.hart c.args.number w.if-event-number.true in
          subst passed (sym w.run-is)
          (record {
            number = w.in_ok-judge.ensures.number ∙ c.loop-event.invariant.number;
            goes_on = not_failed w.judge.new.self.failure (sym w.has_failed.ensures ∙ w.if-has_failed.false);
            runs = judged_next c.args.m.now c.args.wide c.args.number c.args.records.now i c.loop-event.run w.judge.new.self c.file_records_are_own.ensures c.requires c.loop-event-test.true its c.loop-event.invariant w.in_ok-judge.ensures.runs;
          })
      | else-event-number w ↦
          let other = ne_eqb r.hart c.args.number w.if-event-number.false in
          subst passed (sym w.run-is) (passed_by c.args.m.now c.args.wide c.args.number c.args.records.now i c.loop-event.run c.loop-event-test.true other c.loop-event.invariant)
    ]

pub returns : goal.returns
returns c =
    let i = c.loop-event.event-index in
    run_of_all c.args.m.now c.args.wide c.args.number c.args.records.now i c.loop-event.run c.runs_come_to_an_end.ensures c.loop-event.invariant.number c.loop-event.invariant.runs
    (λ none. ap (records_of c.args.number) (drop_all i c.args.records.now (omega (arith, c.loop-event-test.false))))
