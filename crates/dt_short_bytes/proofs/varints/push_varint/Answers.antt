use Rattle.std.proofs.Common.{◌+◌, ◌/◌, ◌%◌, ◌++◌, List, ℕ, ap, sym, ◌∙◌, arith}
use Rattle.dt_record.specs.Spelling.{varint}
use Rattle.dt_short_bytes.proofs.ShortSteps.{varint_last, varint_more, pushed}
use Rattle.dt_short_bytes.proofs.varints.push_varint.Goals as goal

pub loop-rest-preserved : goal.loop-rest-preserved
loop-rest-preserved c =
    let n = c.loop-rest.rest in
    ap (λ (t : List ℕ). t ++ varint (n / 128)) c.in_ok-push.ensures.items
    ∙ pushed (c.args.out.now.items ++ varint c.args.number) c.loop-rest.out.items (varint n) (128 + n % 128) (varint (n / 128)) c.loop-rest.invariant (varint_more n (omega arith) (omega arith))

pub returns : goal.returns
returns c =
    let n = c.loop-rest.rest in
    c.in_ok-push-2.ensures.items ∙ ap (λ (t : List ℕ). c.loop-rest.out.items ++ t) (sym (varint_last n (omega arith))) ∙ c.loop-rest.invariant
