use Rattle.std.proofs.Common.{◌≡◌, [], List, map, sym, subst, arith}
use Rattle.std.proofs.lemmas.Grind.{common_steps}
use Rattle.std.proofs.lemmas.List.{append-nil}
use Rattle.std.specs.Vec.Iter.{into_iter_items}
use Rattle.std.specs.declared.thread.PromisedHandle.{PromisedHandle}
use Rattle.dt_worker.specs.declared.ends.WorkerEnd.{WorkerEnd}
use Rattle.dt_pool.specs.declared.starting.Promised.{Promised}
use Rattle.dt_pool.specs.Starting.{AreEnds, promised}
use Rattle.dt_pool.proofs.starting.join_all.Goals as goal

pub returns : goal.returns
returns g c =
    let handles = c.args.handles.items in
    let ends = c.loop-handle.ends.items in
    let none : into_iter_items c.loop-handle.handle-iterator ≡ [] = grind (arith, common_steps) in
    let last : AreEnds (map promised (into_iter_items c.loop-handle.handle-iterator)) []
    = subst (λ (hs : List (PromisedHandle WorkerEnd Promised)). AreEnds (map promised hs) []) (sym none) tt in
    subst (λ (es : List WorkerEnd). AreEnds (map promised handles) es) (append-nil ends) (c.loop-handle.invariant.5 [] last)
