use Rattle.std.proofs.Common.{◌∙◌, arith}
use Rattle.dt_versions.proofs.Halving.{touched-between, untouched}
use Rattle.dt_versions.proofs.views.is_touched.Goals as goal

pub returns-then-end-start : goal.returns-then-end-start
returns-then-end-start c =
    untouched c.args.writes.now c.args.line c.args.from c.args.to c.args.but c.reached_len-start.result c.earlier_len-end.result (omega arith)
    c.reached_len-start.ensures.parts c.earlier_len-end.ensures.parts

pub returns : goal.returns
returns c =
    c.is_any_of_another.ensures
    ∙ touched-between c.args.writes.now c.args.line c.args.from c.args.to c.args.but c.reached_len-start.result c.earlier_len-end.result (omega arith) c.earlier_len-end.ensures.within
    c.reached_len-start.ensures.parts c.earlier_len-end.ensures.parts
