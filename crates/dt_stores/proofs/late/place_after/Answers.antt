use Rattle.std.proofs.Common.{nat_le, nat_lt, ◌∙◌, sym, rules}
use Rattle.std.proofs.lemmas.List.Sorted.{IsPartitionedBy-leb, IsPartitionPoint-from_clause}
use Rattle.dt_stores.specs.declared.late.Late.{Late}
use Rattle.dt_stores.proofs.Firsts.{from-partition, all-over, after-not}
use Rattle.dt_stores.proofs.late.place_after.Goals as goal

pub returns-then-is_over : goal.returns-then-is_over
returns-then-is_over c = all-over c.args.late.now c.args.at c.requires (sym c.is_over.ensures ∙ c.if-is_over.true)

pub returns : goal.returns
returns c = from-partition (λ (l : Late). nat_le l.stamp c.args.at) (λ (l : Late). nat_lt c.args.at l.stamp) c.args.late.now c.partition_point.result (λ l. after-not c.args.at l.stamp) c.partition_point.ensures.bound
    (IsPartitionPoint-from_clause (λ (l : Late). nat_le l.stamp c.args.at) c.args.late.now c.partition_point.result c.partition_point.ensures.partitioned
    (IsPartitionedBy-leb (λ (l : Late). l.stamp) c.args.late.now c.args.at c.requires) (λ a r f call. search rules))
