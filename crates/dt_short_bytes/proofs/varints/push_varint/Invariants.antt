use Rattle.std.proofs.Common.{◌≡◌, ◌++◌}
use Rattle.dt_record.specs.Spelling.{varint}
use Rattle.dt_short_bytes.proofs.varints.push_varint.Given as goal

abbrev pub invariant-loop-rest : goal.invariant-loop-rest
invariant-loop-rest l = l.out.items ++ varint l.rest ≡ l.fn.out.items ++ varint l.fn.number

abbrev pub decreases-loop-rest : goal.decreases-loop-rest
decreases-loop-rest l = l.rest
