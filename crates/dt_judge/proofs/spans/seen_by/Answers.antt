use Rattle.dt_judge.proofs.FirstVisible.{begin_is_first}
use Rattle.dt_judge.proofs.spans.seen_by.Goals as goal
use Rattle.dt_loads.proofs.LastVisible.{end_is_last}

pub returns-clause-value : goal.returns-clause-value
returns-clause-value c =
    let writes = c.args.m.now.writes in
    let seen = c.visible.result in
    let first = begin_is_first writes c.args.key c.args.key.stamp seen.first seen.last c.visible.ensures.visible in
    let last = end_is_last writes c.args.key c.args.key.stamp seen.first seen.last c.visible.ensures.visible in
    λ i. record { first = first i; last = last i }
