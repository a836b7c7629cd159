use Rattle.std.proofs.Common.{arith}
use Rattle.dt_intake.proofs.WriteLaws.{told-more}
use Rattle.dt_intake.proofs.news.add_writes.Goals as goal

pub loop-event-preserved : goal.loop-event-preserved
loop-event-preserved c =
    let inside = c.loop-event-test.true in
    let number = c.loop-event.invariant.number in
    let room = c.loop-event.invariant.room in
    let len = c.add_write.ensures.len in
    let capacity = c.add_write.ensures.capacity in
    record {
      number = omega arith;
      added = told-more c.args.first c.args.records.now c.loop-event.event-index _ c.loop-event.seq _ _ _ inside number c.loop-event.invariant.added c.add_write.ensures.added;
      room = omega arith;
    }
