use Rattle.std.proofs.Common.{◌≡◌, ◌∙◌, Option, List, length, true, sym, ap, subst, arith, rules}
use Rattle.std.proofs.lemmas.List.Elements.{All-same}
use Rattle.dt_record.specs.declared.streams.Next.{Next}
use Rattle.dt_reading.specs.Reading.{with_header}
use Rattle.dt_reading.proofs.Underway.{accepted}
use Rattle.dt_shared.specs.Records.{identity}
use Rattle.dt_pass.specs.Checked.{IsCheckOf}
use Rattle.dt_worker.specs.Workers.{WorkerView}
use Rattle.dt_pool.specs.Joining.{HaveRun}
use Rattle.dt_pool.specs.Starting.{AreEnds}
use Rattle.dt_pool.proofs.Joined.{ends_count, made_of_this}
use Rattle.dt_pool.proofs.Runs.{have_run, idle_after}
use Rattle.dt_pool.proofs.checking.check.Given.{Over}
use Rattle.dt_pool.proofs.checking.check.Goals as goal

pub run_all-requires-clause-of_this : goal.run_all-requires-clause-of_this
run_all-requires-clause-of_this g c κs within =
    let o = c.in_ok-shared.field-0 in
    let header = c.in_ok-header.header in
    let id = identity o.shared in
    All-same (λ (w : WorkerView). w.pass.of ≡ id) c.in_ok-crew.crew.workers.items o.workers.items c.in_ok-crew.ensures.workers
    (made_of_this c.args.image.now header.wide header.harts id c.args.workers o.feeds.items o.workers.items c.in_ok-shared.ensures.opened)

pub answer-requires-clause-count : goal.answer-requires-clause-count
answer-requires-clause-count g c =
    let o = c.in_ok-shared.field-0 in
    let header = c.in_ok-header.header in
    let left = c.into_parts-lent.result.1 in
    let ends = c.run_all.result.ends.items in
    let started : c.run_all.result.started ≡ true = sym c.into_parts-lent.ensures.started ∙ c.if-not-started.false in
    let are : AreEnds o.workers.items ends = subst (λ (ws : List WorkerView). AreEnds ws ends) c.in_ok-crew.ensures.workers (c.run_all.ensures.ends started) in
    let count = ends_count c.args.image.now header.wide header.harts (identity o.shared) c.args.workers o.feeds.items o.workers.items ends c.in_ok-shared.ensures.opened are in
    omega (arith, c.in_ok-shared.ensures.count, ap length c.into_parts-lent.ensures.ends, count, left.ends.ok.0)

-- the check of the stream, as it is after the run
checked_is : (g : Over) (c : goal.In_ok-answer-in-Whole g)
    → IsCheckOf c.args.image.now (g.P.Probes.left c.args.probes.now) (g.P.Probes.progress c.run_all.result.feeder.probes.now) c.in_ok-answer-in-Whole.field-0
checked_is g c =
    let o = c.in_ok-shared.field-0 in
    let header = c.in_ok-header.header in
    let id = identity o.shared in
    let left = c.into_parts-lent.result.1 in
    let ran = c.run_all.result in
    let before = g.P.Probes.left c.read_header.new.probes in
    let p = g.P.Probes.progress ran.feeder.probes.now in
    let started : ran.started ≡ true = sym c.into_parts-lent.ensures.started ∙ c.if-not-started.false in
    let run : HaveRun c.args.image.now header.wide header.harts id (with_header header.harts header.wide before) p left.feeds.items left.ends.items left.pass
    = have_run c.args.image.now header.wide header.harts id c.args.workers before p o.feeds.items ran.feeder.feeds.items left.feeds.items
    o.workers.items c.in_ok-crew.crew.workers.items ran.ends.items left.ends.items left.pass
    c.in_ok-shared.ensures.opened c.in_ok-crew.ensures.workers (c.run_all.ensures.ends started) c.into_parts-lent.ensures.ends
    (record {
      end = ran.feeder.end;
      also_wide = (g.P.Probes.progress c.read_header.new.probes).wide;
      fed = c.run_all.ensures.fed started;
      wide_is = c.in_ok-header.ensures.behind.wide_is;
      end_is = sym c.into_parts-lent.ensures.end ∙ c.in-Whole.is;
    })
    c.into_parts-lent.ensures.feeds
    (idle_after id c.args.workers o.pass ran.feeder.pass left.pass c.in_ok-shared.ensures.pass c.run_all.ensures.pass c.into_parts-lent.ensures.pass) in
    subst (λ (told : Option (List Next)). IsCheckOf c.args.image.now told p c.in_ok-answer-in-Whole.field-0) (sym c.in_ok-header.ensures.told)
    (c.in_ok-answer-in-Whole.ensures c.args.image.now header.wide (with_header header.harts header.wide before) p run)

pub returns-in_ok-answer-in-Whole-clause-checked : goal.returns-in_ok-answer-in-Whole-clause-checked
returns-in_ok-answer-in-Whole-clause-checked g c = search (rules, checked_is g c)

pub returns-in_ok-answer-in-Whole-clause-accepted : goal.returns-in_ok-answer-in-Whole-clause-accepted
returns-in_ok-answer-in-Whole-clause-accepted g c =
    let checked = checked_is g c in
    accepted (g.P.Probes.left c.args.probes.now) (g.P.Probes.progress c.run_all.result.feeder.probes.now) checked.harts checked.wide checked.records checked.came
