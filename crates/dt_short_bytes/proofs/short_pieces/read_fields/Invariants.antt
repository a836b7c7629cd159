use Rattle.std.proofs.Common.{◌≡◌, ◌-◌, length, take, drop, replicate}
use Rattle.dt_short_bytes.specs.ShortReading.{fields_at}
use Rattle.dt_short_bytes.proofs.ShortFields.{with_front}
use Rattle.dt_short_bytes.proofs.short_pieces.read_fields.Given as goal

abbrev pub invariant-loop-i : goal.invariant-loop-i
invariant-loop-i l = record {
  places : length l.numbers ≡ 32;
  zeros : drop l.i l.numbers ≡ replicate (32 - l.i) 0;
  so_far : with_front (take l.i l.numbers) (fields_at (l.fn.fields - l.i) l.bits l.rest) ≡ fields_at l.fn.fields l.fn.presence l.fn.b;
}
