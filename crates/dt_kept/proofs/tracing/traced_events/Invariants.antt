use Rattle.std.proofs.Common.{◌≡◌, take}
use Rattle.dt_kept.specs.Tracing.{all_traced}
use Rattle.dt_kept.proofs.tracing.traced_events.Given as goal

-- those of the first harts are added
abbrev pub invariant-loop-events : goal.invariant-loop-events
invariant-loop-events l = l.traced.items ≡ all_traced l.fn.failing (take l.events-index l.kept)
