use Rattle.std.proofs.Common.{◌≡◌, ◌%◌, ap, ◌∙◌, arith}
use Rattle.dt_record.specs.Actions.{Held}
use Rattle.dt_record.specs.Writes.{width_mask}
use Rattle.dt_stores.proofs.MergeLaws.{shifted_mask}
use Rattle.dt_stores.proofs.entries.Entry.mask.Goals as goal

pub returns : goal.returns
returns c =
    let width : c.self.inside.store.width ≡ c.args.self.now.store.width = ap (λ (h : Held). h.store.width) c.self.view_is in
    let place : c.place-place.result ≡ c.args.self.now.store.addr % 64 = c.place-place.ensures.at in
    shifted_mask c.place-place.result c.self.inside.store.width (omega arith) (omega arith)
    ∙ ap (λ w. width_mask c.place-place.result w) width
    ∙ ap (λ p. width_mask p c.args.self.now.store.width) place
