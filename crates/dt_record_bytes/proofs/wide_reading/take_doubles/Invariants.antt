use Rattle.std.proofs.Common.{◌≡◌, ℕ, ◌<◌, ◌^◌, get_or, ◌+◌, ◌*◌, ◌++◌, take, length}
use Rattle.std.specs.List.{flat_map}
use Rattle.dt_record.specs.Spelling.{double}
use Rattle.dt_record_bytes.proofs.wide_reading.take_doubles.Given as goal

-- the numbers so far, and the bytes that are left
abbrev pub invariant-loop-number : goal.invariant-loop-number
invariant-loop-number l = record {
  spelled : l.bytes ≡ flat_map double (take l.number-index l.numbers) ++ l.rest;
  count : length l.rest + 8 * l.number-index ≡ length l.bytes;
  fits : (k : ℕ) → k < l.number-index → get_or l.numbers k 0 < 2 ^ 64;
}
