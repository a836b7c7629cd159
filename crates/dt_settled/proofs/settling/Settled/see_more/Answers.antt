use Rattle.std.proofs.Common.{◌≡◌, true, List, ◌++◌, length, sym, ap, ◌∙◌, arith, length-append}
use Rattle.std.proofs.lemmas.Result.{on_ok_weaker}
use Rattle.dt_record.specs.declared.writes.Note.{Note}
use Rattle.dt_versions.specs.History.{are_in_order}
use Rattle.dt_settled.specs.Settling.{SettledView}
use Rattle.dt_settled.proofs.Orders.{in_order-behind}
use Rattle.dt_settled.proofs.Settlement.{Settles-moved, StaysTrue-moved, StaysTrue-taken, taken-more, on_err_always}
use Rattle.dt_settled.proofs.settling.Settled.see_more.Goals as goal
use Rattle.dt_settled.proofs.settling.Settled.see_more.Goals.{After-settle}

-- what waits before the moves stands in order
sorted : (c : After-settle) → are_in_order c.take_in.new.waiting ≡ true
sorted c = c.take_in.ensures.in_order c.self.invariant

-- all notes are seen then
all_seen : (c : After-settle) (before : List Note) → c.self.inside.seen ≡ length before → c.take_in.new.seen ≡ length (before ++ c.args.more.now)
all_seen c before count = let all = c.in_ok-take_in.ensures.all in omega (arith, length-append before c.args.more.now)

pub returns-in_err-take_in-clause-stays_true : goal.returns-in_err-take_in-clause-stays_true
returns-in_err-take_in-clause-stays_true c =
    on_err_always c.from_residual.result (λ before count.
    let from = ap (λ (v : SettledView). v.seen) c.self.view_is ∙ count in
    StaysTrue-taken c.args.least (before ++ c.args.more.now) c.args.self.now c.self.inside.moments c.self.inside.waiting c.take_in.new.waiting c.self.inside.seen c.take_in.new.seen
    c.self.view_is (taken-more before c.args.more.now c.self.inside.seen c.take_in.new.seen c.self.inside.waiting c.take_in.new.waiting from c.take_in.ensures.rises c.take_in.ensures.taken))

pub invariant_of-self-2 : goal.invariant_of-self-2
invariant_of-self-2 c =
    let moves = c.settle.ensures.moved in
    in_order-behind moves.moved c.settle.new.waiting (ap are_in_order (sym moves.left) ∙ sorted c)

pub returns-clause-settles : goal.returns-clause-settles
returns-clause-settles c =
    on_ok_weaker c.settle.result
    (λ done before count.
    let from = ap (λ (v : SettledView). v.seen) c.self.view_is ∙ count in
    Settles-moved c.args.least (before ++ c.args.more.now) c.args.self.now c.self.inside.moments c.self.inside.waiting c.take_in.new.waiting c.self.inside.seen c.take_in.new.seen
    c.settle.new.moments c.settle.new.waiting c.self.view_is
    (taken-more before c.args.more.now c.self.inside.seen c.take_in.new.seen c.self.inside.waiting c.take_in.new.waiting from c.take_in.ensures.rises c.take_in.ensures.taken)
    (all_seen c before from) (sorted c) c.settle.ensures.moved done)
    c.settle.ensures.done

pub returns-clause-stays_true : goal.returns-clause-stays_true
returns-clause-stays_true c =
    on_err_always c.settle.result (λ before count.
    let from = ap (λ (v : SettledView). v.seen) c.self.view_is ∙ count in
    StaysTrue-moved c.args.least (before ++ c.args.more.now) c.args.self.now c.self.inside.moments c.self.inside.waiting c.take_in.new.waiting c.self.inside.seen c.take_in.new.seen
    c.settle.new.moments c.settle.new.waiting c.self.view_is
    (taken-more before c.args.more.now c.self.inside.seen c.take_in.new.seen c.self.inside.waiting c.take_in.new.waiting from c.take_in.ensures.rises c.take_in.ensures.taken)
    (all_seen c before from) (sorted c) c.settle.ensures.moved)
