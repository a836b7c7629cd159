use Rattle.std.proofs.Common.{ltb, rules}
use Rattle.std.proofs.lemmas.Bool.{ltb-true, ltb-false}
use Rattle.std.proofs.lemmas.List.Sorted.{IsPartitionPoint-from_clause, IsPartitionedBy-ltb}
use Rattle.dt_versions.proofs.Halving.{stamps_rise}
use Rattle.dt_versions.proofs.views.cycle_start.Goals as goal

pub returns-clause-parts : goal.returns-clause-parts
returns-clause-parts c =
    let point =
    IsPartitionPoint-from_clause (λ w. ltb w.key.stamp c.args.at) c.args.writes.now c.partition_point.result c.partition_point.ensures.partitioned
    (IsPartitionedBy-ltb (λ w. w.key.stamp) c.args.writes.now c.args.at (stamps_rise c.args.writes.now c.requires)) (λ a r f k. search rules) in
    (λ i d from to. ltb-true _ _ (point.0 i d from to), λ i d from to. ltb-false _ _ (point.1 i d from to))
