use Rattle.dt_pass.proofs.HartRuns.{HasPassed}
use Rattle.dt_pass.proofs.running.run_one.Given as goal

-- the hart's records among the first ones are allowed
abbrev pub invariant-loop-event : goal.invariant-loop-event
invariant-loop-event l = HasPassed l.m l.wide l.number l.records l.event-index l.run
