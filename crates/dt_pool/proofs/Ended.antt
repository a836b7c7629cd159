-- The ends of workers, one for each.
use Rattle.std.proofs.Common.{◌≡◌, ◌<◌, ℕ, zero, suc, List, [], ◌∷◌, length, get_or, refl, ap, arith}
use Rattle.dt_worker.specs.declared.ends.WorkerEnd.{WorkerEnd}
use Rattle.dt_worker.specs.Ends.{IsWorkerEnd}
use Rattle.dt_worker.specs.Workers.{WorkerView}
use Rattle.dt_pool.specs.Starting.{AreEnds}

pub as_many_ends : (ws : List WorkerView) (es : List WorkerEnd) → AreEnds ws es → length es ≡ length ws
as_many_ends [] [] are = refl
as_many_ends [] (e ∷ es) are = absurd are
as_many_ends (w ∷ ws) [] are = absurd are
as_many_ends (w ∷ ws) (e ∷ es) are = ap suc (as_many_ends ws es are.1)

pub end_at : (ws : List WorkerView) (es : List WorkerEnd) → AreEnds ws es → (k : ℕ) (w : WorkerView) (e : WorkerEnd) → k < length ws
    → IsWorkerEnd (get_or ws k w) (get_or es k e)
end_at [] [] are k w e within = absurd (omega (arith, within))
end_at [] (x ∷ es) are k w e within = absurd are
end_at (v ∷ ws) [] are k w e within = absurd are
end_at (v ∷ ws) (x ∷ es) are zero w e within = are.0
end_at (v ∷ ws) (x ∷ es) are (suc k) w e within = end_at ws es are.1 k w e (omega (arith, within))
