use Rattle.std.proofs.Common.{ℕ, arith}
use Rattle.dt_record.specs.declared.keys.Key.{Key}
use Rattle.dt_hart.specs.HartData.{own_number}
use Rattle.dt_hart.proofs.KeptValues.{kept_more}
use Rattle.dt_hart.proofs.pages.marks_of.Goals as goal

abbrev none : ℕ × Key
none = (0, record { stamp = 0; hart = 0; seq = 0 })

pub loop-page-preserved : goal.loop-page-preserved
loop-page-preserved c =
    let more = kept_more (own_number c.args.count c.args.all) c.args.pages.now c.loop-page.page-index none c.loop-page-test.true in
    let pushed = c.in_ok-push_mark.ensures in
    grind (arith, more, pushed, c.loop-page.invariant, c.own_number.ensures)
