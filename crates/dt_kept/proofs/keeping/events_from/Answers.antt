use Rattle.std.proofs.Common.{◌==◌, take, arith, nat_lt}
use Rattle.std.proofs.lemmas.List.{length-take-le}
use Rattle.dt_lists.proofs.Lists.{filter-within}
use Rattle.dt_record.specs.declared.records.Record.{Record}
use Rattle.dt_record.specs.Keys.{records_of}
use Rattle.dt_kept.proofs.keeping.events_from.Goals as goal

pub keep-requires : goal.keep-requires
keep-requires c =
    let i = c.loop-event.event-index in
    let first = take i c.args.records.now in
    let own = records_of c.args.hart first in
    omega (
      arith,
      c.requires,
      c.loop-event.invariant.first,
      filter-within (λ (r : Record). nat_lt r.stamp c.args.cut) own,
      filter-within (λ (r : Record). r.hart == c.args.hart) first,
      length-take-le i c.args.records.now (omega (arith, c.loop-event-test.true)),
      c.loop-event-test.true,
    )
