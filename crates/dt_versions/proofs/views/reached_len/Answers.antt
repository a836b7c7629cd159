use Rattle.std.proofs.Common.{not, rules}
use Rattle.std.proofs.lemmas.Bool.{not-false, not-true}
use Rattle.std.proofs.lemmas.List.Sorted.{IsPartitionPoint-from_clause}
use Rattle.dt_record.specs.Keys.{key_below}
use Rattle.dt_versions.proofs.Halving.{IsPartitionedBy-closed, closed-not_after}
use Rattle.dt_versions.proofs.views.reached_len.Goals as goal

pub returns-clause-parts : goal.returns-clause-parts
returns-clause-parts c =
    let point =
    IsPartitionPoint-from_clause (λ w. not (key_below c.args.key w.key)) c.args.writes.now c.partition_point.result c.partition_point.ensures.partitioned
    (IsPartitionedBy-closed (λ w. not (key_below c.args.key w.key)) c.args.writes.now c.requires (closed-not_after c.args.key)) (λ a r f k. search rules) in
    (λ i d from to. not-true _ (point.0 i d from to), λ i d from to. not-false _ (point.1 i d from to))
