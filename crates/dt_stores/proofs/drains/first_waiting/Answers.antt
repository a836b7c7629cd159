use Rattle.std.proofs.Common.{ap, ◌∙◌, sym, arith}
use Rattle.dt_record.specs.Actions.{is_waiting}
use Rattle.dt_stores.proofs.Firsts.{first-more, first-here, first-end}
use Rattle.dt_stores.proofs.drains.first_waiting.Goals as goal

pub returns-then-is_waiting : goal.returns-then-is_waiting
returns-then-is_waiting c = first-here is_waiting c.args.entries.now c.loop-first.first c.index-entries-first.result c.loop-first.invariant
    (ap is_waiting (sym c.index-entries-first.is) ∙ sym c.is_waiting.ensures ∙ c.if-is_waiting.true)

pub loop-first-preserved : goal.loop-first-preserved
loop-first-preserved c = first-more is_waiting c.args.entries.now c.loop-first.first c.index-entries-first.result c.loop-first.invariant (omega arith)
    (ap is_waiting (sym c.index-entries-first.is) ∙ sym c.is_waiting.ensures ∙ c.if-is_waiting.false)

pub returns : goal.returns
returns c = first-end is_waiting c.args.entries.now c.loop-first.first c.loop-first.invariant (omega arith)
