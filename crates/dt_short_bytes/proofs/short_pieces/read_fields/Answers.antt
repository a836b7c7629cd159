use Rattle.std.proofs.Common.{◌<◌, length, take, ◌∙◌, arith}
use Rattle.std.proofs.lemmas.Result.{err_from_is_err_and}
use Rattle.std.proofs.lemmas.List.{take_more_set, length-set}
use Rattle.dt_short_bytes.specs.ShortReading.{fields_at}
use Rattle.dt_short_bytes.proofs.ShortFields.{goes_on, stops, is_done, padded_err, padded_ok, zeros_more}
use Rattle.dt_short_bytes.proofs.short_pieces.read_fields.Goals as goal

pub returns-in_err-number : goal.returns-in_err-number
returns-in_err-number c =
    let l = c.loop-i in
    let total = fields_at c.args.fields c.args.presence c.args.b.now in
    let p = err_from_is_err_and c.from_residual.result c.from_residual.ensures.1 in
    rw (p.1, p.2) (padded_err c.in_err-number.field-0.0 c.args.fields c.args.presence c.args.b.now
    (stops c.in_err-number.field-0.0 (take l.i l.numbers) c.args.fields l.i l.bits l.rest.now total (omega arith) c.in_err-number.ensures l.invariant.so_far))

pub loop-i-preserved : goal.loop-i-preserved
loop-i-preserved c =
    let l = c.loop-i in
    let n = c.in_ok-number.number in
    let total = fields_at c.args.fields c.args.presence c.args.b.now in
    let within : l.i < length l.numbers = omega (arith, l.invariant.places) in
    record {
      places = length-set l.numbers l.i n ∙ l.invariant.places;
      zeros = zeros_more l.numbers l.i n l.invariant.zeros;
      so_far = rw (take_more_set l.numbers l.i n within) (goes_on (take l.i l.numbers) c.args.fields l.i l.bits l.rest.now n c.in_ok-number.after.now total (omega arith) c.in_ok-number.ensures l.invariant.so_far);
    }

pub returns : goal.returns
returns c =
    let l = c.loop-i in
    let total = fields_at c.args.fields c.args.presence c.args.b.now in
    padded_ok c.args.fields c.args.presence c.args.b.now l.numbers l.i l.rest.now (omega (arith, l.invariant.places)) l.invariant.zeros
    (is_done (take l.i l.numbers) c.args.fields l.i l.bits l.rest.now total (omega arith) l.invariant.so_far)
