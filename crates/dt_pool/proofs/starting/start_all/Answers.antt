use Rattle.std.proofs.Common.{◌≡◌, ◌++◌, ◌∷◌, [], List, map, sym, ap, ◌∙◌, append_assoc, arith, rules}
use Rattle.std.specs.Vec.Iter.{into_iter_items}
use Rattle.std.specs.declared.thread.PromisedHandle.{PromisedHandle}
use Rattle.std.proofs.lemmas.List.{map-append}
use Rattle.std.proofs.lemmas.List.Elements.{All-rest}
use Rattle.dt_shared.specs.Records.{identity}
use Rattle.dt_worker.specs.declared.ends.WorkerEnd.{WorkerEnd}
use Rattle.dt_worker.specs.Workers.{WorkerView}
use Rattle.dt_pool.specs.declared.starting.Promised.{Promised}
use Rattle.dt_pool.specs.Starting.{promised}
use Rattle.dt_pool.proofs.starting.start_all.Goals as goal

pub loop-worker-preserved : goal.loop-worker-preserved
loop-worker-preserved g c =
    let worker = c.in-Some.worker in
    let handles = c.loop-worker.handles.items in
    let handle = c.in-Ok.handle in
    let items = into_iter_items c.loop-worker.worker-iterator in
    let rest = into_iter_items c.next.new.self in
    let next : items ≡ worker ∷ rest = c.in-Some.ensures.steps.0 in
    let inv = c.loop-worker.invariant in
    let same : promised handle ≡ worker = search rules in (
      tt,
      tt,
      ap (λ (hs : List (PromisedHandle WorkerEnd Promised)). map promised hs ++ rest) c.push_reserved.ensures.items
          ∙ ap (λ (ws : List WorkerView). ws ++ rest) (map-append promised handles (handle ∷ []))
          ∙ append_assoc (map promised handles) (promised handle ∷ []) rest
          ∙ ap (λ (w : WorkerView). map promised handles ++ w ∷ rest) same
          ∙ ap (λ (ws : List WorkerView). map promised handles ++ ws) (sym next)
          ∙ inv.2,
      omega (arith, inv.3, c.push_reserved.ensures.len, c.in-Some.ensures.steps.1),
      c.push_reserved.ensures.capacity ∙ inv.4,
      All-rest (λ (w : WorkerView). w.pass.of ≡ identity c.args.shared.now) worker rest items next inv.5,
    )
