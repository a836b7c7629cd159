use Rattle.std.proofs.Common.{◌≡◌}
use mathlib.Core.List.{IsPrefix}
use Rattle.dt_shared.specs.Entries.{notes_in}
use Rattle.dt_shared.specs.Records.{identity}
use Rattle.dt_shared.proofs.tests.work.Given as goal

abbrev pub invariant-loop-round : goal.invariant-loop-round
invariant-loop-round g l = (l.pass.of ≡ identity l.shared) × IsPrefix l.replica.notes (notes_in l.pass.seen)
