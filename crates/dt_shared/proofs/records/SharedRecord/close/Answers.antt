use Rattle.std.proofs.Common.{arith}
use Rattle.dt_shared.proofs.Gathering.{ClosedFacts, closed_facts}
use Rattle.dt_shared.proofs.records.SharedRecord.close.Goals as goal

facts : (c : goal.After-free) → ClosedFacts c.args.passes.items c.take-history.result.items
facts c = closed_facts _ _ _ _ _ _ _ c.take-history.result c.gather-seat.ensures.all (let ok = c.args.passes.ok in let keyed = c.args.self.keyed.0 in omega arith) c.close_with-closed.ensures.values.2 c.take-history.ensures.value

pub returns-clause-seen : goal.returns-clause-seen
returns-clause-seen c = (facts c).seen

pub returns-clause-own : goal.returns-clause-own
returns-clause-own c = (facts c).own

pub returns-clause-numbers : goal.returns-clause-numbers
returns-clause-numbers c = (facts c).numbers

pub returns-clause-stops : goal.returns-clause-stops
returns-clause-stops c = (facts c).stops
