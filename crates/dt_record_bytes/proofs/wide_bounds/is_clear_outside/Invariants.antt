use Rattle.std.proofs.Common.{◌≡◌, drop}
use Rattle.dt_record.specs.Lawful.{is_masked}
use Rattle.dt_record_bytes.proofs.wide_bounds.is_clear_outside.Given as goal

-- the bytes that are left decide
abbrev pub invariant-loop-b : goal.invariant-loop-b
invariant-loop-b l = is_masked l.rest (drop l.b-index l.bytes) ≡ is_masked l.mask l.bytes
