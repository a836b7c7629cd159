use Rattle.std.proofs.Common.{ℕ, ◌≡◌, ◌+◌, ◌≤◌, ◌++◌, List, length, vec_len, vec_capacity}
use Rattle.std.specs.Vec.Iter.{into_iter_items, into_iter_len}
use Rattle.dt_queue.specs.declared.ends.Take.{Take}
use Rattle.dt_lane.specs.declared.ends.HartEnd.{HartEnd}
use Rattle.dt_worker.specs.LaneEnds.{AreLaneEnds}
use Rattle.dt_worker.proofs.ending.end_all.Given as goal

-- with what the lanes that are left give back, it is what all give back
abbrev pub invariant-loop-lane : goal.invariant-loop-lane
invariant-loop-lane l =
    goal.iterator-loop-lane.can_next l.lane-iterator × goal.iterator-loop-lane.is_finite l.lane-iterator
    × (length (into_iter_items l.lane-iterator) ≡ into_iter_len l.lane-iterator)
    × (vec_len l.takes + into_iter_len l.lane-iterator ≤ vec_capacity l.takes)
    × (vec_len l.ends + into_iter_len l.lane-iterator ≤ vec_capacity l.ends)
    × ((takes : List (ℕ × Take)) (ends : List HartEnd) → AreLaneEnds (into_iter_items l.lane-iterator) takes ends
    → AreLaneEnds l.fn.lanes.items (l.takes.items ++ takes) (l.ends.items ++ ends))
