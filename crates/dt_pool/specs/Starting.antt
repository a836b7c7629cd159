-- What the threads of workers promise. All of it is this project's own.
use Rattle.std.specs.Prelude.{List, [], ◌∷◌}
use Rattle.std.specs.declared.thread.PromisedHandle.{PromisedHandle}
use Rattle.dt_worker.specs.declared.ends.WorkerEnd.{WorkerEnd}
use Rattle.dt_worker.specs.Ends.{IsWorkerEnd}
use Rattle.dt_worker.specs.Workers.{WorkerView}
use Rattle.dt_pool.specs.declared.starting.Promised.{Promised}

-- the worker whose end a thread has promised
abbrev pub promised : PromisedHandle WorkerEnd Promised → WorkerView
promised handle = handle.promise.0.value

-- the ends of these workers, in their order
abbrev pub AreEnds : List WorkerView → List WorkerEnd → Type 0
AreEnds [] [] = Unit {0}
AreEnds (w ∷ ws) (e ∷ es) = IsWorkerEnd w e × AreEnds ws es
AreEnds _ _ = ⊥
