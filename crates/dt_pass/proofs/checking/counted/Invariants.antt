use Rattle.std.proofs.Common.{◌≡◌, map}
use Rattle.std.specs.List.{range_with_len}
use Rattle.dt_record.specs.Keys.{records_of}
use Rattle.dt_tallies.specs.Counting.{counts_of}
use Rattle.dt_pass.proofs.checking.counted.Given as goal

-- the first harts are counted
abbrev pub invariant-loop-hart : goal.invariant-loop-hart
invariant-loop-hart l = l.counts.items ≡ map (λ hart. counts_of l.fn.limit (records_of hart l.records)) (range_with_len 0 l.hart)
