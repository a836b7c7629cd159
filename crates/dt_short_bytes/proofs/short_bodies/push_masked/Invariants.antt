use Rattle.std.proofs.Common.{◌≡◌, ◌++◌, drop}
use Rattle.dt_record.specs.Spelling.{masked_bytes}
use Rattle.dt_short_bytes.proofs.short_bodies.push_masked.Given as goal

abbrev pub invariant-loop-byte : goal.invariant-loop-byte
invariant-loop-byte l = l.out.items ++ masked_bytes l.bits (drop l.byte-index l.bytes) ≡ l.fn.out.items ++ masked_bytes l.fn.mask l.bytes
