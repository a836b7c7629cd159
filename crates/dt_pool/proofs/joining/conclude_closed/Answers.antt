use Rattle.std.proofs.lemmas.Result.{IfOk-weaker}
use Rattle.dt_writes.specs.FileRecords.{AreFileRecords}
use Rattle.dt_pool.proofs.joining.conclude_closed.Goals as goal

pub conclude-requires-clause-few_records : goal.conclude-requires-clause-few_records
conclude-requires-clause-few_records c =
    let r = c.requires.joined in
    c.joined_harts_are_few.ensures r.0 r.1 c.args.harts r.2 c.args.passes.items c.args.ends.now r.3.few_records r.4

pub returns : goal.returns
returns c =
    IfOk-weaker c.conclude.result _ _
    (λ checked concludes image wide file streamed joined.
    let are : AreFileRecords file = record {
      harts = c.args.harts;
      few_harts = streamed.few_harts;
      each = streamed.each;
      few_records = streamed.few_records;
      few_writes = streamed.few_writes;
    } in
    concludes image wide file are
    (c.joined_harts_are_judged.ensures image wide c.args.harts file c.args.passes.items c.in-Ok.field-0.items c.args.ends.now
    streamed.each are streamed.few_records (record { own = c.in-Ok.ensures.own; numbers = c.in-Ok.ensures.numbers }) c.in-Ok.ensures.seen joined))
    c.conclude.ensures
