use Rattle.std.proofs.Common.{◌≡◌, length}
use Rattle.dt_snapshot.specs.Keeping.{states_from, dropped_below}
use Rattle.dt_snapshot.proofs.keepers.drop_early.Given as goal

-- what is left to drop leaves the same
abbrev pub invariant-loop-stamp : goal.invariant-loop-stamp
invariant-loop-stamp g l = record {
  states : states_from l.interval l.cut l.states.items ≡ states_from l.interval l.cut l.initial.states.items;
  dropped : dropped_below l.interval l.cut l.dropped l.states.items ≡ dropped_below l.interval l.cut l.initial.dropped l.initial.states.items;
}

abbrev pub decreases-loop-stamp : goal.decreases-loop-stamp
decreases-loop-stamp g l = length l.states.items
