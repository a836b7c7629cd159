use Rattle.std.proofs.Common.{◌≡◌, ◌+◌, ◌-◌, ◌*◌, ◌^◌, ◌<◌}
use Rattle.dt_atomics.specs.Values.{number_at}
use Rattle.dt_atomics.proofs.reading.number_at.Given as goal

-- the last bytes so far
abbrev pub invariant-loop-i : goal.invariant-loop-i
invariant-loop-i l = record {
  value : l.number ≡ number_at l.m.image l.m.writes l.k l.i (l.x.paddr + (l.x.width - l.i));
  fits : l.number < 2 ^ (8 * l.i);
}
