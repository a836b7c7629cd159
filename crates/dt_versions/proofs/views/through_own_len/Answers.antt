use Rattle.std.proofs.Common.{rules}
use Rattle.std.proofs.lemmas.List.Sorted.{IsPartitionPoint-from_clause}
use Rattle.dt_versions.specs.Cycles.{is_up_to_own}
use Rattle.dt_versions.proofs.views.through_own_len.Goals as goal

pub returns-clause-parts : goal.returns-clause-parts
returns-clause-parts c =
    IsPartitionPoint-from_clause (is_up_to_own c.args.key) c.args.writes.now c.partition_point.result c.partition_point.ensures.partitioned c.requires (λ a r f k. search rules)
