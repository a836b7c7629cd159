use Rattle.std.proofs.Common.{rules, All, [], ◌∷◌, ◌++◌, ap, drop, sym, subst, ◌∙◌, IsTrue}
use Rattle.dt_core.specs.Marks.{is_below}
use Rattle.dt_record.specs.declared.records.Record.{Record}
use Rattle.dt_lane.specs.Lanes.{IsJudgedBy, LaneView, judged_len, judged_of}
use Rattle.dt_lane.proofs.Judging.{WasJudged, found_next, next_may_be, judging_keeps, judged_more, judged_below, judged_on, with_run}
use Rattle.dt_lane.specs.contracts.lanes.Lane as lane
use Rattle.dt_lane.proofs.lanes.Lane.judge_next.Goals as goal

pub judge-requires : goal.judge-requires
judge-requires g c =
    let old : LaneView = lane.the_view c.self.inside in
    let r = c.in-Some.event.now in
    let next = found_next old c.usable.result.now c.seq-seq.result r c.self.invariant (search rules) c.usable.ensures.front c.seq-seq.ensures
    c.in-Some.ensures.lookup.3.0 c.in-Some.ensures.lookup.1 in
    let may = next_may_be old r c.usable.result.now next c.usable.ensures.front c.usable.ensures.usable in
    record { lawful = may.lawful; its = may.its ∙ sym c.self.invariant.number; in_time = may.in_time; room = may.number; goes_on = next.none }

pub invariant_of-self-then-is_below : goal.invariant_of-self-then-is_below
invariant_of-self-then-is_below g c =
    let old : LaneView = lane.the_view c.self.inside in
    let r = c.in-Some.event.now in
    let next = found_next old c.usable.result.now c.seq-seq.result r c.self.invariant (search rules) c.usable.ensures.front c.seq-seq.ensures
    c.in-Some.ensures.lookup.3.0 c.in-Some.ensures.lookup.1 in
    let e = c.in_ok-judge-in-Some.ensures in
    let was : WasJudged old.run c.judge.new.self r = record { number = e.number; counted = e.counted; stamp = e.stamp; stays = e.stays } in
    judging_keeps old c.judge.new.self r next was

pub returns-in_ok-judge-in-Some : goal.returns-in_ok-judge-in-Some
returns-in_ok-judge-in-Some g c =
    let old : LaneView = lane.the_view c.self.inside in
    let r = c.in-Some.event.now in
    let next = found_next old c.usable.result.now c.seq-seq.result r c.self.invariant (search rules) c.usable.ensures.front c.seq-seq.ensures
    c.in-Some.ensures.lookup.3.0 c.in-Some.ensures.lookup.1 in
    let e = c.in_ok-judge-in-Some.ensures in
    let was : WasJudged old.run c.judge.new.self r = record { number = e.number; counted = e.counted; stamp = e.stamp; stays = e.stays } in
    let now : IsTrue (is_below c.args.least r.stamp) = sym c.is_below.ensures ∙ c.if-is_below.true in
    let judged = judged_on c.early_writes_have_settled.ensures old c.judge.new.self c.args.m.now c.args.least r next was now e.runs in
    let below = judged_below old c.judge.new.self r c.args.least next was now in
    record {
      same = ap (λ (l : LaneView). with_run l c.judge.new.self) c.self.view_is;
      judged = λ wide all goes so_far. judged wide all goes (subst (λ (l : LaneView). IsJudgedBy l c.args.m.now.image wide all) (sym c.self.view_is) so_far);
      further = (r ∷ [], ap (λ (l : LaneView). judged_of l ++ r ∷ []) (sym c.self.view_is) ∙ sym (judged_more old c.judge.new.self r next was));
      below = subst (λ (l : LaneView). All (λ (q : Record). IsTrue (is_below c.args.least q.stamp)) (drop (judged_len l.run) (judged_of (with_run old c.judge.new.self)))) c.self.view_is below;
    }
