use Rattle.std.proofs.Common.{◌≡◌, ◌<◌, ◌+◌, ◌++◌, List, length, get_or, take, sym, ap, ◌∙◌, append_assoc, arith}
use Rattle.std.proofs.lemmas.List.{length-take-le, take_more}
use Rattle.dt_record.specs.declared.records.Record.{Record}
use Rattle.dt_runs.proofs.OwnRecords.{any_record}
use Rattle.dt_kept.specs.declared.traces.Traced.{Traced}
use Rattle.dt_kept.specs.Tracing.{own_traced, traced_one}
use Rattle.dt_kept.proofs.ByHart.{own_traced-push}
use Rattle.dt_kept.proofs.tracing.add_all.Goals as goal

pub loop-event-preserved : goal.loop-event-preserved
loop-event-preserved c =
    let i = c.loop-event.event-index in
    let events = c.args.kept.now.events.items in
    let first = c.args.kept.now.first in
    let failing = c.args.failing in
    let before = c.args.traced.now.items in
    let r = get_or events i any_record in
    let within : i < length events = omega (arith, c.loop-event-test.true, ap length c.deref-event-items.ensures.value) in
    let long = length-take-le i events (omega (arith, within)) in
    let place : c.loop-event.seq ≡ first + length (take i events) = omega (arith, long, c.loop-event.invariant.counted) in
    record {
      counted = omega (arith, c.loop-event.invariant.counted);
      added =
          c.in_ok-add.ensures
          ∙ ap (λ (l : List Record). c.loop-event.traced.items ++ traced_one failing c.loop-event.seq (get_or l i any_record)) c.deref-event-items.ensures.value
          ∙ ap (λ (l : List Traced). l ++ traced_one failing c.loop-event.seq r) c.loop-event.invariant.added
          ∙ ap (λ n. (before ++ own_traced failing first (take i events)) ++ traced_one failing n r) place
          ∙ append_assoc before (own_traced failing first (take i events)) (traced_one failing (first + length (take i events)) r)
          ∙ ap (λ (l : List Traced). before ++ l)
          (sym (own_traced-push failing first (take i events) r) ∙ ap (own_traced failing first) (sym (take_more events i any_record within)));
    }
