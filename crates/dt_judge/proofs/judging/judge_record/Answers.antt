use Rattle.std.proofs.Common.{Ok, Err, ap, subst}
use Rattle.dt_hart.specs.declared.found.Findings.{Findings}
use Rattle.dt_hart.specs.Standing.{GoesOnWith}
use Rattle.dt_record.specs.declared.origins.Sources.{Sources}
use Rattle.dt_record.specs.declared.records.Record.{Record}
use Rattle.dt_record.specs.Lent.{record_of}
use Rattle.dt_judge.proofs.Meeting.{Laws, finds, was_judged}
use Rattle.dt_judge.proofs.judging.judge_record.Goals as goal

pub returns-in-Ok-take_at-clause-judged : goal.returns-in-Ok-take_at-clause-judged
returns-in-Ok-take_at-clause-judged c = λ s meets.
    let checks = c.first_writes_decide_checks.ensures in
    let laws : Laws = record {
      known = c.known_at_next.ensures;
      fences = c.fences_are_earlier.ensures;
      last = c.last_fences_are_below.ensures;
      checks = record {
        starts = checks.starts;
        addresses = checks.addresses;
        traps = c.first_writes_decide_traps.ensures;
        atomics = c.first_writes_decide_atomics.ensures;
        refills = c.first_writes_decide_refills.ensures;
      };
    } in
    finds laws c.args.h.now c.args.m.now s c.args.event.now meets c.seq.result c.seen_by-seen.result (Ok c.in-Ok.passed) c.requires.lawful c.seq.ensures c.seen_by-seen.ensures.value
    c.in-Ok.ensures.finds

pub returns-in-Ok-take_at-clause-goes_on : goal.returns-in-Ok-take_at-clause-goes_on
returns-in-Ok-take_at-clause-goes_on c = λ s meets.
    let checks = c.first_writes_decide_checks.ensures in
    let laws : Laws = record {
      known = c.known_at_next.ensures;
      fences = c.fences_are_earlier.ensures;
      last = c.last_fences_are_below.ensures;
      checks = record {
        starts = checks.starts;
        addresses = checks.addresses;
        traps = c.first_writes_decide_traps.ensures;
        atomics = c.first_writes_decide_atomics.ensures;
        refills = c.first_writes_decide_refills.ensures;
      };
    } in
    let judged = was_judged laws c.args.h.now c.args.m.now s c.args.event.now meets c.seq.result c.in-Ok.passed.sources c.requires.lawful c.seq.ensures
    c.in-Ok.ensures.found in
    let told = ap (λ (f : Findings). f.sources) c.found.ensures in
    let took =
    subst (λ (x : Record). GoesOnWith c.args.h.now c.take_at.new.self x c.in-Ok.passed.sources) c.lent.ensures
    (subst (λ (x : Sources). GoesOnWith c.args.h.now c.take_at.new.self (record_of c.lent.result) x) told c.in-Ok-take_at.ensures.goes_on) in
    record {
      moment = judged.0;
      is_read = judged.1.is_read;
      stands = took s judged.0 meets.stands meets.goes_on judged.1;
    }

pub returns-in-Err-clause-judged : goal.returns-in-Err-clause-judged
returns-in-Err-clause-judged c = λ s meets.
    let checks = c.first_writes_decide_checks.ensures in
    let laws : Laws = record {
      known = c.known_at_next.ensures;
      fences = c.fences_are_earlier.ensures;
      last = c.last_fences_are_below.ensures;
      checks = record {
        starts = checks.starts;
        addresses = checks.addresses;
        traps = c.first_writes_decide_traps.ensures;
        atomics = c.first_writes_decide_atomics.ensures;
        refills = c.first_writes_decide_refills.ensures;
      };
    } in
    finds laws c.args.h.now c.args.m.now s c.args.event.now meets c.seq.result c.seen_by-seen.result (Err c.in-Err.refused) c.requires.lawful c.seq.ensures c.seen_by-seen.ensures.value
    c.in-Err.ensures.finds
