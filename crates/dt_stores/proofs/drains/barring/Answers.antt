use Rattle.std.proofs.Common.{ap, ◌∙◌, sym, arith, option_map}
use Rattle.dt_record.specs.Actions.{Held}
use Rattle.dt_stores.proofs.Firsts.{no-bar}
use Rattle.dt_stores.proofs.drains.barring.Goals as goal

pub returns-then-barrier : goal.returns-then-barrier
returns-then-barrier c = ap (option_map (λ (h : Held). h.store.seq))
    (sym (no-bar c.args.line c.args.barrier c.loop-e.e-index c.e-item.result c.args.entries.now (omega arith) c.loop-e.invariant.rising
    (omega (arith, ap (λ (h : Held). h.barrier) c.e-item.is))) ∙ c.loop-e.invariant.rest)
