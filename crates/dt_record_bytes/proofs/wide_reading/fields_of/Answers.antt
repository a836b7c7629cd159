use Rattle.std.proofs.Common.{◌≤◌, length, get_or, arith}
use Rattle.std.proofs.lemmas.List.{take_rest}
use Rattle.dt_record_bytes.proofs.Answering.{fields_in_order}
use Rattle.dt_record_bytes.proofs.Lengths.{whole_is_long}
use Rattle.dt_record_bytes.proofs.wide_reading.fields_of.Goals as goal

pub returns-clause-fields : goal.returns-clause-fields
returns-clause-fields c =
    let long : 10 ≤ length c.args.bytes.now = whole_is_long _ (get_or c.args.bytes.now 0 0) c.requires.whole in (
      c.take_body-body.result.2.now,
      record {
        fits = record { stamp = omega arith; hart = omega (arith, c.type_inv.bytes 1); body = c.take_body-body.ensures.fits };
        wrote = c.take_body-body.ensures.wrote;
        spelled = fields_in_order c.args.bytes.now _ _ _ _ _ _ (omega (arith, long)) (take_rest c.args.bytes.now 2) c.take_double-stamp.ensures.spelled c.take_body-body.ensures.spelled c.take_body-body.ensures.kind;
      },
    )
