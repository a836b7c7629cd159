use Rattle.std.proofs.Common.{◌≡◌, ◌+◌, ◌≤◌, ◌++◌, List, length, map, vec_len, vec_capacity}
use Rattle.std.specs.Vec.Iter.{into_iter_items, into_iter_len}
use Rattle.dt_worker.specs.declared.ends.WorkerEnd.{WorkerEnd}
use Rattle.dt_pool.specs.Starting.{AreEnds, promised}
use Rattle.dt_pool.proofs.starting.join_all.Given as goal

-- with the ends of the threads that are left, they are the ends of all
abbrev pub invariant-loop-handle : goal.invariant-loop-handle
invariant-loop-handle g l =
    (goal.iterator-loop-handle g).can_next l.handle-iterator × (goal.iterator-loop-handle g).is_finite l.handle-iterator
    × (length (into_iter_items l.handle-iterator) ≡ into_iter_len l.handle-iterator)
    × (vec_len l.ends + into_iter_len l.handle-iterator ≤ vec_len l.fn.handles)
    × (vec_capacity l.ends ≡ vec_capacity l.initial.ends)
    × ((later : List WorkerEnd) → AreEnds (map promised (into_iter_items l.handle-iterator)) later
    → AreEnds (map promised l.fn.handles.items) (l.ends.items ++ later))
