use Rattle.std.proofs.Common.{◌≡◌, ap, sym, ◌∙◌, arith, lit<}
use Rattle.dt_record.specs.Writes.{width_mask}
use Rattle.dt_record.proofs.Placed.{shifted-ones}
use Rattle.dt_record.proofs.writes.mask_of.Goals as goal

pub returns-then-width-eq8 : goal.returns-then-width-eq8
returns-then-width-eq8 c =
    shifted-ones 255 8 c.args.place (lit< tt) (omega arith) ∙ ap (width_mask c.args.place) (sym c.if-width-eq8.true)

pub returns-else-width-eq8 : goal.returns-else-width-eq8
returns-else-width-eq8 c =
    let four : c.args.width ≡ 4 = omega arith in
    shifted-ones 15 4 c.args.place (lit< tt) (omega arith) ∙ ap (width_mask c.args.place) (sym four)
