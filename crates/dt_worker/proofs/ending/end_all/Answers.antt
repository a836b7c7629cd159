use Rattle.std.proofs.Common.{ℕ, ◌≡◌, List, [], ◌∷◌, ◌++◌, sym, ap, ◌∙◌, subst, arith}
use Rattle.std.proofs.lemmas.Grind.{common_steps}
use Rattle.std.proofs.lemmas.List.{append-nil, append_assoc}
use Rattle.std.specs.Vec.Iter.{into_iter_items}
use Rattle.dt_queue.specs.declared.ends.Take.{Take}
use Rattle.dt_lane.specs.declared.ends.HartEnd.{HartEnd}
use Rattle.dt_lane.specs.Lanes.{LaneView}
use Rattle.dt_worker.specs.LaneEnds.{AreLaneEnds}
use Rattle.dt_worker.proofs.ending.end_all.Goals as goal

pub loop-lane-preserved : goal.loop-lane-preserved
loop-lane-preserved c =
    let was = c.loop-lane.invariant in
    let steps = c.in-Some.ensures.steps.0 in
    let take = c.end_one-take.result.0 in
    let end = c.end_one-take.result.1 in (
      tt,
      tt,
      grind (arith, common_steps),
      grind (arith, common_steps),
      grind (arith, common_steps),
      λ takes ends are.
          let given : AreLaneEnds (into_iter_items c.loop-lane.lane-iterator) (take ∷ takes) (end ∷ ends) =
          subst (λ (ls : List LaneView). AreLaneEnds ls (take ∷ takes) (end ∷ ends)) (sym steps) (c.end_one-take.ensures, are) in
          subst (λ (ts : List (ℕ × Take)). AreLaneEnds c.args.lanes.items ts (c.push_reserved-in-loop-lane.new.self.items ++ ends))
          (sym (append_assoc c.loop-lane.takes.items (take ∷ []) takes)
          ∙ ap (λ (ts : List (ℕ × Take)). ts ++ takes) (sym c.push_reserved.ensures.items))
          (subst (λ (es : List HartEnd). AreLaneEnds c.args.lanes.items (c.loop-lane.takes.items ++ take ∷ takes) es)
          (sym (append_assoc c.loop-lane.ends.items (end ∷ []) ends)
          ∙ ap (λ (es : List HartEnd). es ++ ends) (sym c.push_reserved-in-loop-lane.ensures.items))
          (was.5 (take ∷ takes) (end ∷ ends) given)),
    )

pub returns : goal.returns
returns c =
    let lanes = c.args.lanes.items in
    let takes = c.loop-lane.takes.items in
    let ends = c.loop-lane.ends.items in
    let none : into_iter_items c.loop-lane.lane-iterator ≡ [] = grind (arith, common_steps) in
    let last : AreLaneEnds (into_iter_items c.loop-lane.lane-iterator) [] [] = subst (λ (ls : List LaneView). AreLaneEnds ls [] []) (sym none) tt in
    subst (λ (ts : List (ℕ × Take)). AreLaneEnds lanes ts ends) (append-nil takes)
    (subst (λ (es : List HartEnd). AreLaneEnds lanes (takes ++ []) es) (append-nil ends) (c.loop-lane.invariant.5 [] [] last))
