use Rattle.std.proofs.Common.{rules}
use Rattle.std.proofs.lemmas.List.Sorted.{IsPartitionPoint-from_clause}
use Rattle.dt_versions.specs.Chains.{is_unchanged}
use Rattle.dt_versions.proofs.words.count_unchanged.Goals as goal

pub returns-clause-parts : goal.returns-clause-parts
returns-clause-parts c =
    IsPartitionPoint-from_clause (is_unchanged c.args.rows.now c.args.start c.args.limit) c.args.chain.now c.partition_point.result c.partition_point.ensures.partitioned
    c.requires.parted (λ a r f k. search rules)
