use Rattle.std.proofs.Common.{get_or, arith}
use Rattle.std.proofs.lemmas.Bool.{eq-eqb, ne_eqb}
use Rattle.dt_record.specs.declared.records.Record.{Record}
use Rattle.dt_record.specs.declared.records.Body.TheVariants.{Commit}
use Rattle.dt_tallies.proofs.CountLaws.{Counted-own, Counted-foreign, Counted-few}
use Rattle.dt_tallies.proofs.counting.count.Goals as goal
use Rattle.dt_tallies.proofs.counting.count.Goals.{then-event-hart, else-event-hart}

abbrev any_record : Record
any_record = record { stamp = 0; hart = 0; body = Commit (record { pc = 0; bits = 0; value = 0 }) }

pub counted-counts-requires : goal.counted-counts-requires
counted-counts-requires c =
    (Counted-few c.args.limit c.args.hart c.args.records.now c.loop-event.event-index 4194303 c.loop-event.counts c.loop-event.seq (omega arith) c.loop-event.invariant).0

pub overflow_add-seq : goal.overflow_add-seq
overflow_add-seq c =
    let few = (Counted-few c.args.limit c.args.hart c.args.records.now c.loop-event.event-index 4194303 c.loop-event.counts c.loop-event.seq (omega arith) c.loop-event.invariant).1 in
    omega arith

pub loop-event-preserved : goal.loop-event-preserved
loop-event-preserved c =
    let records = c.args.records.now in
    let i = c.loop-event.event-index in
    elim c.if-event-hart.branch [
      | then-event-hart w ↦
          rw (w.counts-is, w.seq-is)
          (Counted-own c.args.limit c.args.hart records i any_record c.loop-event.counts w.counted-counts.result c.loop-event.seq
          c.loop-event-test.true (eq-eqb (get_or records i any_record).hart c.args.hart w.if-event-hart.true) w.counted-counts.ensures c.loop-event.invariant)
      | else-event-hart w ↦
          rw (w.counts-is, w.seq-is)
          (Counted-foreign c.args.limit c.args.hart records i any_record c.loop-event.counts c.loop-event.seq
          c.loop-event-test.true (ne_eqb (get_or records i any_record).hart c.args.hart w.if-event-hart.false) c.loop-event.invariant)
    ]
