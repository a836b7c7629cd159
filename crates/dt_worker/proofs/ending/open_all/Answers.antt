use Rattle.std.proofs.Common.{ℕ, ◌≡◌, ◌<◌, List, [], ◌∷◌, ◌++◌, length, get_or, suc, sym, ap, ◌∙◌, subst, arith}
use Rattle.std.proofs.lemmas.Grind.{common_steps}
use Rattle.std.proofs.lemmas.List.{append-nil, append_assoc}
use Rattle.std.specs.Vec.Iter.{into_iter_items}
use Rattle.dt_queue.specs.declared.ends.Take.{Take}
use Rattle.dt_queue.specs.Queue.{taken}
use Rattle.dt_lane.specs.Lanes.{LaneView}
use Rattle.dt_worker.specs.LaneEnds.{AreOpened}
use Rattle.dt_worker.proofs.ending.open_all.Goals as goal

pub loop-given-preserved : goal.loop-given-preserved
loop-given-preserved c =
    let was = c.loop-given.invariant in
    let steps = c.in-Some.ensures.steps.0 in
    let lane = c.open_one.result in (
      tt,
      tt,
      grind (arith, common_steps),
      grind (arith, common_steps),
      λ k d h.
          subst (λ (ts : List (ℕ × Take)). suc k < length ts → taken (get_or ts (suc k) d).1 ≡ []) steps (was.4 (suc k) d) (omega arith),
      λ later are.
          let opened : AreOpened c.args.wide (into_iter_items c.loop-given.given-iterator) (lane ∷ later) =
          subst (λ (ts : List (ℕ × Take)). AreOpened c.args.wide ts (lane ∷ later)) (sym steps) (c.open_one.ensures, are) in
          subst (λ (ls : List LaneView). AreOpened c.args.wide c.args.takes.items ls)
          (sym (append_assoc c.loop-given.lanes.items (lane ∷ []) later) ∙ ap (λ (ls : List LaneView). ls ++ later) (sym c.push_reserved.ensures.items))
          (was.5 (lane ∷ later) opened),
    )

pub returns : goal.returns
returns c =
    let lanes = c.loop-given.lanes.items in
    let none : into_iter_items c.loop-given.given-iterator ≡ [] = grind (arith, common_steps) in
    let last : AreOpened c.args.wide (into_iter_items c.loop-given.given-iterator) [] =
    subst (λ (ts : List (ℕ × Take)). AreOpened c.args.wide ts []) (sym none) tt in
    subst (λ (ls : List LaneView). AreOpened c.args.wide c.args.takes.items ls) (append-nil lanes) (c.loop-given.invariant.5 [] last)
