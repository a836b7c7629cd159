use Rattle.std.proofs.Common.{◌+◌, ◌==◌, List, get_or, take, drop, sym, subst, IsTrue, arith}
use Rattle.std.proofs.lemmas.List.{length-take, take_more}
use Rattle.std.proofs.lemmas.Bool.{eqb-true}
use Rattle.dt_lists.proofs.Lists.{list_all-at}
use Rattle.dt_record.specs.declared.records.Record.{Record}
use Rattle.dt_record.specs.declared.records.Body.TheVariants.{Commit}
use Rattle.dt_record.specs.Lawful.{is_lawful}
use Rattle.dt_hart.specs.OwnWrites.{are_rising}
use Rattle.dt_hart.specs.Replaying.{IsReplayed}
use Rattle.dt_hart.proofs.ReplayedOn.{counted_next, replayed_on, split_at}
use Rattle.dt_hart.proofs.replays.replay.Goals as goal

abbrev none : Record
none = record { stamp = 0; hart = 0; body = Commit (record { pc = 0; bits = 0; value = 0 }) }

pub take-requires-clause-lawful : goal.take-requires-clause-lawful
take-requires-clause-lawful c = list_all-at is_lawful c.args.before.now c.loop-event.event-index none c.requires.lawful c.loop-event-test.true

pub take-requires-clause-counted : goal.take-requires-clause-counted
take-requires-clause-counted c =
    let rs = c.args.before.now in
    let i = c.loop-event.event-index in
    let its = eqb-true (get_or rs i none).hart c.args.a.now.hart (list_all-at (λ (r : Record). r.hart == c.args.a.now.hart) rs i none c.requires.its c.loop-event-test.true) in
    counted_next c.args.a.now.hart c.loop-event.replayed (take i rs) (get_or rs i none) (drop (i + 1) rs) c.loop-event.invariant
    (subst (λ (l : List Record). IsTrue (are_rising l)) (split_at rs i none c.loop-event-test.true) c.requires.rising) its

pub take-requires-clause-room : goal.take-requires-clause-room
take-requires-clause-room c =
    let short = length-take c.loop-event.event-index c.args.before.now in
    omega (arith, short, c.loop-event.invariant.seq, c.loop-event-test.true, c.requires.room)

pub loop-event-preserved : goal.loop-event-preserved
loop-event-preserved c =
    let rs = c.args.before.now in
    let i = c.loop-event.event-index in
    let its = eqb-true (get_or rs i none).hart c.args.a.now.hart (list_all-at (λ (r : Record). r.hart == c.args.a.now.hart) rs i none c.requires.its c.loop-event-test.true) in
    subst (IsReplayed c.args.a.now.hart c.take.new.self) (sym (take_more rs i none c.loop-event-test.true))
    (replayed_on c.actions_go_on.ensures c.args.a.now.hart c.loop-event.replayed c.take.new.self (take i rs) (get_or rs i none) c.loop-event.invariant c.in_ok-take.ensures its)
