use Rattle.std.proofs.Common.{◌≡◌, ◌+◌, ◌≤◌, ◌++◌, List, length, All, vec_len, vec_capacity}
use Rattle.std.specs.Vec.Iter.{into_iter_items, into_iter_len}
use Rattle.std.specs.Prelude.{[]}
use Rattle.dt_queue.specs.Queue.{taken}
use Rattle.dt_lane.specs.Lanes.{LaneView}
use Rattle.dt_worker.specs.LaneEnds.{AreOpened}
use Rattle.dt_worker.proofs.ending.open_all.Given as goal

-- with lanes for the takes that are left, there is one for each take
abbrev pub invariant-loop-given : goal.invariant-loop-given
invariant-loop-given l =
    goal.iterator-loop-given.can_next l.given-iterator × goal.iterator-loop-given.is_finite l.given-iterator
    × (length (into_iter_items l.given-iterator) ≡ into_iter_len l.given-iterator)
    × (vec_len l.lanes + into_iter_len l.given-iterator ≤ vec_capacity l.lanes)
    × All (λ t. taken t.1 ≡ []) (into_iter_items l.given-iterator)
    × ((later : List LaneView) → AreOpened l.wide (into_iter_items l.given-iterator) later → AreOpened l.wide l.fn.takes.items (l.lanes.items ++ later))
