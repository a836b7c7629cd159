use Rattle.std.proofs.Common.{◌≡◌, ◌++◌, take}
use Rattle.std.specs.List.{flat_map}
use Rattle.dt_record.specs.Spelling.{double}
use Rattle.dt_record_bytes.proofs.wide_writing.put_doubles.Given as goal

abbrev pub invariant-loop-number : goal.invariant-loop-number
invariant-loop-number l = l.out.items ≡ l.fn.out.items ++ flat_map double (take l.number-index l.numbers)
