use Rattle.std.proofs.Common.{◌≡◌, ◌-◌, ◌*◌, ◌++◌, map}
use Rattle.dt_local.specs.LocalMemory.{pair_of}
use Rattle.dt_local.specs.Slots.{key_at}
use Rattle.dt_local.proofs.Bytes.{run}
use Rattle.dt_local.proofs.pairs.push_word.Given as goal

abbrev pub invariant-loop-place : goal.invariant-loop-place
invariant-loop-place l = record {
  bytes : map pair_of l.bytes.items ++ run (key_at l.slot) (8 * l.word) l.place (8 - l.place)
      ≡ map pair_of l.initial.bytes.items ++ run (key_at l.slot) (8 * l.word) 0 8;
}
