use Rattle.std.proofs.Common.{◌≡◌, ◌++◌, map}
use Rattle.dt_local.specs.LocalMemory.{pair_of}
use Rattle.dt_local.specs.Slots.{known_bytes}
use Rattle.dt_local.proofs.Known.{AreInRam}
use Rattle.dt_local.proofs.pairs.known_of.Given as goal

abbrev pub invariant-loop-word : goal.invariant-loop-word
invariant-loop-word l = record {
  bytes : map pair_of l.bytes.items ++ known_bytes l.word-iterator ≡ known_bytes l.fn.slots.entries;
  in_ram : AreInRam l.word-iterator;
}
