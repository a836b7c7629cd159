use Rattle.std.proofs.Common.{◌≡◌, ◌+◌, ◌≢◌, Some, get_or, ap, ◌∙◌, arith}
use Rattle.std.proofs.lemmas.List.{get_or-set_other, length-set}
use Rattle.std.proofs.lemmas.Option.{slice_get_within, get_or_from_slice_get, slice_get-get_or}
use Rattle.dt_record.specs.declared.origins.Origin.TheVariants as origin
use Rattle.dt_sources.specs.Tries.{tried_origin}
use Rattle.dt_sources.proofs.Places.{more_written, get_or-any}
use Rattle.dt_sources.proofs.tries.origins_at.Goals as goal

pub loop-i-preserved : goal.loop-i-preserved
loop-i-preserved c = record {
  long = length-set c.loop-i.from c.loop-i.i c.origin_at.result ∙ c.loop-i.invariant.long;
  done = λ j b o below.
      more_written (λ n found. found ≡ tried_origin c.args.m.now c.args.k (c.args.addr + n) (get_or c.args.bytes.now n b)) c.loop-i.from c.loop-i.i c.origin_at.result (omega arith)
      (λ n d before. c.loop-i.invariant.done n b d before)
      (c.origin_at.ensures ∙ ap (λ d. tried_origin c.args.m.now c.args.k (c.args.addr + c.loop-i.i) d) (get_or-any c.args.bytes.now c.loop-i.i _ b (omega arith))) j o below;
  still_image = λ j o past within.
      let apart : j ≢ c.loop-i.i = omega arith in
      get_or-set_other c.loop-i.from c.loop-i.i j c.origin_at.result o apart ∙ c.loop-i.invariant.still_image j o (omega arith) within;
}

pub returns-clause-from : goal.returns-clause-from
returns-clause-from c = λ i b is.
    let within = slice_get_within c.args.bytes.now i b is in
    slice_get-get_or c.loop-i.from i origin.Image (omega arith)
    ∙ ap (λ o. Some o) (c.loop-i.invariant.done i b origin.Image (omega arith)
    ∙ ap (λ d. tried_origin c.args.m.now c.args.k (c.args.addr + i) d) (get_or_from_slice_get c.args.bytes.now i b b is))

pub returns-clause-no_more : goal.returns-clause-no_more
returns-clause-no_more c = λ i past within.
    slice_get-get_or c.loop-i.from i origin.Image (omega arith) ∙ ap (λ o. Some o) (c.loop-i.invariant.still_image i origin.Image (omega arith) within)
