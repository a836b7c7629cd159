use Rattle.std.proofs.Common.{List, sym, subst}
use Rattle.dt_record.specs.declared.writes.Write.{Write}
use Rattle.dt_settled.specs.Settling.{Moves}
use Rattle.dt_settled.proofs.Moving.{Moves-next}
use Rattle.dt_settled.proofs.settling.settle.Goals as goal

pub loop-w-preserved : goal.loop-w-preserved
loop-w-preserved c =
    subst (λ (ws : List Write). Moves c.args.least c.args.moments.now c.args.waiting.now c.add.new.moments ws) (sym c.drop_first.ensures)
    (Moves-next c.args.least c.in-Some.w c.loop-w.waiting c.args.moments.now c.loop-w.moments c.add.new.moments c.args.waiting.now
    (sym c.in-Some.ensures) c.in_ok-add.ensures.added c.loop-w.invariant)
