use Rattle.std.proofs.Common.{arith}
use Rattle.dt_settled.proofs.TakingIn.{taken-next}
use Rattle.dt_settled.proofs.settling.take_in.Goals as goal

pub loop-note-preserved : goal.loop-note-preserved
loop-note-preserved c = record {
  seen = let so_far = c.loop-note.invariant.seen in omega arith;
  taken = taken-next c.args.waiting.now c.loop-note.waiting c.hold.new.waiting c.args.more.now c.loop-note.note-index _ c.loop-note-test.true c.loop-note.invariant.taken
      c.in_ok-hold.ensures.held;
  in_order = λ was. c.hold.ensures.in_order (c.loop-note.invariant.in_order was);
}
