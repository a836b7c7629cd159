use Rattle.std.proofs.Common.{◌≡◌}
use Rattle.dt_shared.specs.Records.{identity}
use Rattle.dt_shared.proofs.tests.wait_for_stop.Given as goal

abbrev pub invariant-loop : goal.invariant-loop
invariant-loop g l = l.pass.of ≡ identity l.shared
