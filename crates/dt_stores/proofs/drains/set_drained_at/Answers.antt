use Rattle.std.proofs.Common.{ap, ◌∙◌, arith, set}
use Rattle.dt_record.specs.Actions.{Held}
use Rattle.dt_stores.proofs.PlacesOn.{drained_one-set, drained_one-past}
use Rattle.dt_stores.proofs.drains.set_drained_at.Goals as goal

pub returns-then-place-entries : goal.returns-then-place-entries
returns-then-place-entries c =
    ap (λ (h : Held). set c.args.entries.now c.args.place h) c.set_drained.ensures
    ∙ drained_one-set c.args.drain c.args.entries.now c.args.place c.index-entries-place.result (omega arith)

pub returns-else-place-entries : goal.returns-else-place-entries
returns-else-place-entries c = drained_one-past c.args.drain c.args.entries.now c.args.place (omega arith)
