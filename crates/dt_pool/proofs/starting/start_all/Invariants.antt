use Rattle.std.proofs.Common.{◌≡◌, ◌+◌, ◌≤◌, ◌++◌, map, vec_len, vec_capacity}
use Rattle.std.specs.Prelude.{All}
use Rattle.std.specs.Vec.Iter.{into_iter_items, into_iter_len}
use Rattle.dt_shared.specs.Records.{identity}
use Rattle.dt_pool.specs.Starting.{promised}
use Rattle.dt_pool.proofs.starting.start_all.Given as goal

-- the threads so far are those of the first workers
abbrev pub invariant-loop-worker : goal.invariant-loop-worker
invariant-loop-worker g l =
    (goal.iterator-loop-worker g).can_next l.worker-iterator × (goal.iterator-loop-worker g).is_finite l.worker-iterator
    × (map promised l.handles.items ++ into_iter_items l.worker-iterator ≡ l.fn.workers.items)
    × (vec_len l.handles + into_iter_len l.worker-iterator ≤ vec_len l.fn.workers)
    × (vec_capacity l.handles ≡ vec_capacity l.initial.handles)
    × All (λ w. w.pass.of ≡ identity l.shared) (into_iter_items l.worker-iterator)
