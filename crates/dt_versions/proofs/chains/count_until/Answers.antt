use Rattle.std.proofs.Common.{rules, leb}
use Rattle.std.proofs.lemmas.Bool.{leb-true, leb-false}
use Rattle.std.proofs.lemmas.List.Sorted.{IsPartitionPoint-from_clause, IsPartitionedBy-leb}
use Rattle.dt_versions.proofs.chains.count_until.Goals as goal

pub returns-clause-parts : goal.returns-clause-parts
returns-clause-parts c =
    let point = IsPartitionPoint-from_clause (λ m. leb m c.args.k) c.args.chain.now c.partition_point.result c.partition_point.ensures.partitioned
    (IsPartitionedBy-leb (λ m. m) c.args.chain.now c.args.k c.requires) (λ a r f k. search rules) in
    (λ i d from to. leb-true _ _ (point.0 i d from to), λ i d from to. leb-false _ _ (point.1 i d from to))
