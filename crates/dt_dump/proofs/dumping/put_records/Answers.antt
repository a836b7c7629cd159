use Rattle.std.proofs.Common.{◌<◌, ℕ, List, refl, sym, ◌∙◌, subst, arith}
use Rattle.std.proofs.lemmas.List.{get_or-replicate}
use Rattle.dt_text.specs.Line.{line_text}
use Rattle.dt_dump.specs.Dump.{AppendsPart}
use Rattle.dt_dump.proofs.Texts.{front_of_text}
use Rattle.dt_dump.proofs.Dumped.{HasDumped, after_record, comes_next, has_room, hart_fits, starts}
use Rattle.dt_dump.proofs.dumping.put_records.Goals as goal

pub loop-event-init : goal.loop-event-init
loop-event-init g c = record {
  dumped = starts _ _ _ _ c.requires refl (λ hart below. get_or-replicate 8 hart 0 0 below);
  probes_counted = omega arith;
  out_counted = omega arith;
  same_origin = λ bytes origin. origin;
  same_lent = refl;
}

pub put_record-requires-clause-few : goal.put_record-requires-clause-few
put_record-requires-clause-few g c =
    let u = c.loop-event.invariant.dumped in
    has_room _ _ _ _ _ c.loop-event.counts _ _ c.in-Event.event u.underway c.in-Event.ensures.step u.counted

pub loop-event-preserved : goal.loop-event-preserved
loop-event-preserved g c =
    let u = c.loop-event.invariant.dumped in
    let fits : c.in-Event.event.hart < 8 = hart_fits _ _ _ _ _ _ _ c.in-Event.event u.underway c.in-Event.ensures.step in
    record {
      dumped =
          subst (λ (counts : List ℕ). HasDumped (g.P.Probes.left c.args.probes.now) (g.P.Probes.left c.next.new.self) (g.O.Sink.written c.args.out.now) (g.O.Sink.written c.put_record.new.out) counts (g.P.Probes.progress c.next.new.self))
          (sym c.in-Ok.ensures.counted)
          (after_record _ _ _ _ _ _ c.loop-event.counts _ _ c.in-Event.event u c.in-Event.ensures.told c.in-Event.ensures.step fits c.in-Ok.ensures.ok);
      probes_counted = omega (arith, c.loop-event.invariant.probes_counted, c.in-Event.ensures.rising);
      out_counted = omega (arith, c.loop-event.invariant.out_counted, c.in-Ok.ensures.never_falls);
      same_origin = λ bytes origin. c.in-Event.ensures.same_origin bytes (c.loop-event.invariant.same_origin bytes origin);
      same_lent = c.in-Event.ensures.same_lent ∙ c.loop-event.invariant.same_lent;
    }

pub returns-in-Err-WriteFault-clause-write_fault_front : goal.returns-in-Err-WriteFault-clause-write_fault_front
returns-in-Err-WriteFault-clause-write_fault_front g c =
    let u = c.loop-event.invariant.dumped in
    let r = c.in-Event.event in
    let fits : r.hart < 8 = hart_fits _ _ _ _ _ _ _ r u.underway c.in-Event.ensures.step in
    let fault = c.put_record.ensures.write_fault (cc) in
    front_of_text _ _ _ _ u.given r (comes_next _ _ _ u.given r c.in-Event.ensures.told u.came) u.lines
    (subst (λ (n : ℕ). AppendsPart (g.O.Sink.written c.loop-event.out) (line_text n r) (g.O.Sink.written c.put_record.new.out)) (u.counted.each r.hart fits) fault.1)
