use Rattle.std.proofs.Common.{◌≡◌, ◌≤◌, ◌-◌, length}
use Rattle.dt_source.specs.Known.{TakesFrom}
use Rattle.dt_permissions.proofs.reading.read_deciding.Given as goal

-- the bytes are what was taken
abbrev pub invariant-loop-chunk : goal.invariant-loop-chunk
invariant-loop-chunk g l =
    let left = g.S.Source.left in
    record {
      within : length l.bytes.items ≤ 75497506;
      taken : TakesFrom (left l.fn.source) l.bytes.items (left l.source);
      quiet : g.S.Source.faults l.source ≡ g.S.Source.faults l.fn.source;
      whole : length l.chunk ≡ 4096;
    }

abbrev pub decreases-loop-chunk : goal.decreases-loop-chunk
decreases-loop-chunk g l = 75497506 - length l.bytes.items
