use Rattle.std.proofs.Common.{◌≡◌, ◌+◌, ◌++◌, take}
use Rattle.dt_kept.specs.Tracing.{own_traced}
use Rattle.dt_kept.proofs.tracing.add_all.Given as goal

-- the first records are added, and counted
abbrev pub invariant-loop-event : goal.invariant-loop-event
invariant-loop-event l = record {
  counted : l.seq ≡ l.kept.first + l.event-index;
  added : l.traced.items ≡ l.initial.traced.items ++ own_traced l.fn.failing l.kept.first (take l.event-index l.kept.events.items);
}
