use Rattle.dt_pass.specs.Running.{AreRunsOf}
use Rattle.dt_pass.proofs.running.run_all.Given as goal

-- the first harts have run
abbrev pub invariant-loop-hart : goal.invariant-loop-hart
invariant-loop-hart l = AreRunsOf l.m l.wide l.hart l.records l.outcomes.items l.notes.items
