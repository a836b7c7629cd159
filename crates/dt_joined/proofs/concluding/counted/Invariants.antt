use Rattle.std.specs.Prelude.{◌≡◌, ℕ, Bool, List, length, map}
use Rattle.std.specs.List.{range_with_len}
use Rattle.dt_record.specs.declared.records.Record.{Record}
use Rattle.dt_record.specs.Keys.{records_of}
use Rattle.dt_tallies.specs.Counting.{counts_of}
use Rattle.dt_joined.specs.Ends.{AreEndsOf}
use Rattle.dt_joined.proofs.concluding.counted.Given as goal

-- the first harts are counted
abbrev pub invariant-loop-hart : goal.invariant-loop-hart
invariant-loop-hart l = (length l.counts.items ≡ l.hart) × ((image : List ℕ) (wide : Bool) (file : List Record) → AreEndsOf image wide file l.ends
    → l.counts.items ≡ map (λ hart. counts_of l.limit (records_of hart file)) (range_with_len 0 l.hart))
