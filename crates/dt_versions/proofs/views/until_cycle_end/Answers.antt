use Rattle.std.proofs.Common.{leb, rules}
use Rattle.std.proofs.lemmas.Bool.{leb-true, leb-false}
use Rattle.std.proofs.lemmas.List.Sorted.{IsPartitionPoint-from_clause, IsPartitionedBy-leb}
use Rattle.dt_versions.proofs.views.until_cycle_end.Goals as goal

pub returns-clause-parts : goal.returns-clause-parts
returns-clause-parts c =
    let point =
    IsPartitionPoint-from_clause (λ w. leb w.key.stamp c.args.at) c.args.writes.now c.partition_point.result c.partition_point.ensures.partitioned
    (IsPartitionedBy-leb (λ w. w.key.stamp) c.args.writes.now c.args.at c.requires) (λ a r f k. search rules) in
    (λ i d from to. leb-true _ _ (point.0 i d from to), λ i d from to. leb-false _ _ (point.1 i d from to))
