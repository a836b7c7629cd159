use Rattle.std.proofs.Common.{arith}
use Rattle.dt_lists.proofs.Lists.{filter-within}
use Rattle.dt_record.specs.Keys.{key_below}
use Rattle.dt_atomics.proofs.judging.moment.Goals as goal

pub returns-clause-within : goal.returns-clause-within
returns-clause-within c = let most = filter-within (λ w. key_below w.key c.args.key) c.args.m.now.writes in omega arith
