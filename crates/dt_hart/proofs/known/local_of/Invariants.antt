use Rattle.std.proofs.Common.{ℕ, ◌≡◌, ◌==◌, map, take}
use Rattle.std.specs.Map.{lookup}
use Rattle.dt_local.specs.LocalMemory.{newest_of, pair_of}
use Rattle.dt_hart.proofs.known.local_of.Given as goal

abbrev pub invariant-loop-entry : goal.invariant-loop-entry
invariant-loop-entry l = (byte : ℕ) → newest_of l.local byte ≡ lookup (λ a. a == byte) (map pair_of (take l.entry-index l.known))
