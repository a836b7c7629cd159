use Rattle.std.proofs.Common.{◌≡◌}
use Rattle.dt_shared.specs.Records.{identity}
use Rattle.dt_worker.specs.Steps.{Goes}
use Rattle.dt_worker.proofs.workers.Worker.run.Given as goal

-- the worker is later in its run
abbrev pub invariant-loop : goal.invariant-loop
invariant-loop g l = Goes l.initial.worker l.worker × (l.worker.pass.of ≡ identity l.shared)
