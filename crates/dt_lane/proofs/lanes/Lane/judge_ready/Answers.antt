use Rattle.std.proofs.Common.{rules}
use Rattle.dt_lane.specs.Lanes.{judged_of}
use Rattle.dt_lane.proofs.Judging.{goes_further, lanes_below}
use Rattle.dt_lane.proofs.lanes.Lane.judge_ready.Goals as goal

pub returns-in_err-judge_next-clause-below : goal.returns-in_err-judge_next-clause-below
returns-in_err-judge_next-clause-below g c =
    let e = c.in_err-judge_next.ensures in
    lanes_below c.args.least c.args.self.now c.loop.self c.judge_next.new.self e.same e.further c.loop.invariant.below e.below

pub returns-then-not-branch-clause-below : goal.returns-then-not-branch-clause-below
returns-then-not-branch-clause-below g c =
    let e = c.in_ok-judge_next.ensures in
    lanes_below c.args.least c.args.self.now c.loop.self c.judge_next.new.self e.same e.further c.loop.invariant.below e.below

pub loop-preserved : goal.loop-preserved
loop-preserved g c =
    let e = c.in_ok-judge_next.ensures in
    record {
      same = search rules;
      judged = λ wide all goes was. e.judged wide all goes (c.loop.invariant.judged wide all goes was);
      further = goes_further (judged_of c.args.self.now) (judged_of c.loop.self) (judged_of c.judge_next.new.self) c.loop.invariant.further e.further;
      below = lanes_below c.args.least c.args.self.now c.loop.self c.judge_next.new.self e.same e.further c.loop.invariant.below e.below;
    }
