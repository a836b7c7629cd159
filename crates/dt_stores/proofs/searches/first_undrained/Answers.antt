use Rattle.std.proofs.Common.{not, false, slice_get, rules}
use Rattle.std.specs.Option.{option_map_or}
use Rattle.std.proofs.lemmas.List.Sorted.{IsPartitionPoint-from_clause}
use Rattle.dt_record.specs.Actions.{Held, is_undrained}
use Rattle.dt_stores.proofs.Firsts.{partitioned, first-among}
use Rattle.dt_stores.proofs.searches.first_undrained.Goals as goal

pub returns : goal.returns
returns c = λ hs n at split.
    first-among (is_undrained c.args.at) n c.args.entries.now hs c.args.places.now c.partition_point.result at split c.partition_point.ensures.bound
    (IsPartitionPoint-from_clause (λ place. option_map_or (λ (h : Held). not (is_undrained c.args.at h)) (slice_get c.args.entries.now place) false) c.args.places.now c.partition_point.result c.partition_point.ensures.partitioned
    (partitioned (is_undrained c.args.at) n c.args.entries.now hs c.args.places.now at split) (λ a r f call. search rules))
