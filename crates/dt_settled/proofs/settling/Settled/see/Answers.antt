use Rattle.std.proofs.Common.{◌≡◌, ◌≤◌, List, length, take, ap, subst, arith, length-take}
use Rattle.std.proofs.lemmas.Result.{on_ok_weaker}
use Rattle.dt_record.specs.declared.writes.Note.{Note}
use Rattle.dt_settled.specs.Settling.{SettledView, Settles, StaysTrue}
use Rattle.dt_settled.proofs.Settlement.{on_err_weaker}
use Rattle.dt_settled.proofs.TakingIn.{rest-behind}
use Rattle.dt_settled.proofs.settling.Settled.see.Goals as goal
use Rattle.dt_settled.proofs.settling.Settled.see.Goals.{After-see_more-2}

seen_is : (c : After-see_more-2) → c.see_more.inside.seen ≡ c.args.self.now.seen
seen_is c = ap (λ (v : SettledView). v.seen) c.see_more.view_is

-- the seen notes are so many
count : (c : After-see_more-2) → c.args.self.now.seen ≡ length (take c.see_more.inside.seen c.args.notes.now)
count c = let same = seen_is c in omega (arith, c.requires, length-take c.see_more.inside.seen c.args.notes.now)

pub returns-clause-settles : goal.returns-clause-settles
returns-clause-settles c =
    let seen = c.see_more.inside.seen in
    let notes = c.args.notes.now in
    let same = seen_is c in
    let within : seen ≤ length notes = omega (arith, c.requires) in
    on_ok_weaker c.see_more-2.result
    (λ more. subst (λ (ns : List Note). Settles c.args.self.now c.see_more-2.new.self ns c.args.least) (rest-behind notes seen within) (more (take seen notes) (count c)))
    c.see_more-2.ensures.settles

pub returns-clause-stays_true : goal.returns-clause-stays_true
returns-clause-stays_true c =
    let seen = c.see_more.inside.seen in
    let notes = c.args.notes.now in
    let same = seen_is c in
    let within : seen ≤ length notes = omega (arith, c.requires) in
    on_err_weaker c.see_more-2.result
    (λ more. subst (λ (ns : List Note). StaysTrue c.args.self.now c.see_more-2.new.self ns c.args.least) (rest-behind notes seen within) (more (take seen notes) (count c)))
    c.see_more-2.ensures.stays_true
