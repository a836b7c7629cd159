use Rattle.std.proofs.Common.{rules, ◌≡◌, ◌<◌, ◌∙◌, length, get_or, sym, subst, arith}
use Rattle.std.proofs.lemmas.List.{get_or_default}
use Rattle.dt_lane.specs.Lanes.{LaneView}
use Rattle.dt_worker.specs.Steps.{JudgesMore}
use Rattle.dt_worker.proofs.EachLane.{set-more, set-others, set-size, set-all}
use Rattle.dt_worker.proofs.Steadiness.{judges-same}
use Rattle.dt_worker.proofs.lanes.judge_all.Goals as goal

pub returns-in_err-judge_one : goal.returns-in_err-judge_one
returns-in_err-judge_one g c =
    let was = c.loop-i.invariant in
    let in-lanes : c.loop-i.i < length c.loop-i.lanes.items = grind arith in
    let here : get_or c.loop-i.lanes.items c.loop-i.i c.index_mut.result.now ≡ c.index_mut.result.now = search rules in
    let one : (d : LaneView) → JudgesMore c.args.m.now c.args.least (get_or c.loop-i.lanes.items c.loop-i.i d) c.judge_one.new.lane = λ d.
    subst (λ (u : LaneView). JudgesMore c.args.m.now c.args.least u c.judge_one.new.lane)
    (sym (get_or_default c.loop-i.lanes.items c.loop-i.i d c.index_mut.result.now in-lanes ∙ here)) c.judge_one.ensures in
    set-all (JudgesMore c.args.m.now c.args.least) (judges-same c.args.m.now c.args.least) _ _ _ _ was.size in-lanes was.more was.others one

pub loop-i-preserved : goal.loop-i-preserved
loop-i-preserved g c =
    let was = c.loop-i.invariant in
    let in-lanes : c.loop-i.i < length c.loop-i.lanes.items = grind arith in
    let here : get_or c.loop-i.lanes.items c.loop-i.i c.index_mut.result.now ≡ c.index_mut.result.now = search rules in
    let one : (d : LaneView) → JudgesMore c.args.m.now c.args.least (get_or c.loop-i.lanes.items c.loop-i.i d) c.judge_one.new.lane = λ d.
    subst (λ (u : LaneView). JudgesMore c.args.m.now c.args.least u c.judge_one.new.lane)
    (sym (get_or_default c.loop-i.lanes.items c.loop-i.i d c.index_mut.result.now in-lanes ∙ here)) c.judge_one.ensures in record {
      size = set-size (JudgesMore c.args.m.now c.args.least) (judges-same c.args.m.now c.args.least) _ _ _ _ was.size in-lanes was.more was.others one;
      more = set-more (JudgesMore c.args.m.now c.args.least) (judges-same c.args.m.now c.args.least) _ _ _ _ was.size in-lanes was.more was.others one;
      others = set-others (JudgesMore c.args.m.now c.args.least) (judges-same c.args.m.now c.args.least) _ _ _ _ was.size in-lanes was.more was.others one;
    }
