use Rattle.std.proofs.Common.{refl, ap, ◌∙◌, arith}
use Rattle.std.proofs.lemmas.List.{take_all}
use Rattle.std.proofs.lemmas.Option.{slice_get_read}
use Rattle.dt_kept.specs.Traces.{traced_by_key}
use Rattle.dt_kept.specs.Tracing.{all_traced}
use Rattle.dt_kept.proofs.ByHart.{few_kept, trace_by_harts}
use Rattle.dt_kept.proofs.tracing.traced_events.Goals as goal

pub add_all-requires : goal.add_all-requires
add_all-requires c =
    let i = c.loop-events.events-index in
    let k = c.events-item.result in
    few_kept c.file_records_are_own.ensures c.args.kept.now c.requires i k (slice_get_read c.args.kept.now _ i k refl c.loop-events-test.true c.events-item.is)

pub returns : goal.returns
returns c harts cut records streamed events =
    let kept = c.args.kept.now in
    let i = c.loop-events.events-index in
    let failing = c.args.failing in
    c.in_ok-sort.ensures
    ∙ ap traced_by_key (c.loop-events.invariant ∙ ap (all_traced failing) (take_all i kept (omega (arith, c.loop-events-test.false))))
    ∙ trace_by_harts c.file_records_are_own.ensures cut failing harts records kept streamed events
