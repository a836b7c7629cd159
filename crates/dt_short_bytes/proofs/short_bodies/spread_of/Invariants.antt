use Rattle.std.proofs.Common.{◌≡◌, ◌-◌, ◌++◌, length, take}
use Rattle.dt_short_bytes.specs.ShortReading.{spread}
use Rattle.dt_short_bytes.proofs.short_bodies.spread_of.Given as goal

abbrev pub invariant-loop-i : goal.invariant-loop-i
invariant-loop-i l = record { places : length l.bytes ≡ 64; so_far : take l.i l.bytes ++ spread (64 - l.i) l.bits l.rest ≡ spread 64 l.fn.mask l.fn.line }
