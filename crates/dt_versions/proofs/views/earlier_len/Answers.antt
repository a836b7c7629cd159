use Rattle.std.proofs.Common.{◌≡◌, ◌-◌, true, false, arith, rules, sym, ◌∙◌}
use Rattle.std.specs.List.Sorted.{IsPartitionPoint}
use Rattle.std.proofs.lemmas.List.Sorted.{IsPartitionPoint-from_clause}
use Rattle.dt_record.specs.Keys.{key_below}
use Rattle.dt_versions.proofs.Fronts.{length-filter-closed}
use Rattle.dt_versions.proofs.Halving.{IsPartitionedBy-closed, closed-before, low_end-is}
use Rattle.dt_versions.proofs.Orders.{no_write}
use Rattle.dt_versions.proofs.views.earlier_len.Goals as goal

point : (c : goal.After-partition_point) → IsPartitionPoint (λ w. key_below w.key c.args.key ≡ true) (λ w. key_below w.key c.args.key ≡ false) c.args.writes.now c.partition_point.result
point c =
    IsPartitionPoint-from_clause (λ w. key_below w.key c.args.key) c.args.writes.now c.partition_point.result c.partition_point.ensures.partitioned
    (IsPartitionedBy-closed (λ w. key_below w.key c.args.key) c.args.writes.now c.requires (closed-before c.args.key)) (λ a r f k. search rules)

pub returns-clause-value : goal.returns-clause-value
returns-clause-value c =
    let writes = c.args.writes.now in
    let parts = point c in
    sym (length-filter-closed (λ w. key_below w.key c.args.key) writes no_write (record {
      closed = λ i j d before within below. IsPartitionedBy-closed (λ w. key_below w.key c.args.key) writes c.requires (closed-before c.args.key) i j d (omega arith) within below;
    }) ∙ low_end-is (λ w. key_below w.key c.args.key) writes no_write c.partition_point.result c.partition_point.ensures.bound
    (λ some. parts.0 (c.partition_point.result - 1) no_write (omega arith) (omega arith)) (λ i from to. parts.1 i no_write from to))

pub returns-clause-parts : goal.returns-clause-parts
returns-clause-parts c = point c
