use Rattle.std.proofs.Common.{◌≡◌, ◌++◌, take}
use Rattle.std.specs.List.{flat_map}
use Rattle.dt_record.specs.Spelling.{present_bytes}
use Rattle.dt_short_bytes.proofs.short.push_numbers.Given as goal

abbrev pub invariant-loop-number : goal.invariant-loop-number
invariant-loop-number l = l.out.items ≡ l.fn.out.items ++ flat_map present_bytes (take l.number-index l.numbers)
