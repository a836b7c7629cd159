use Rattle.std.proofs.Common.{◌≡◌, ap, ◌∙◌, arith}
use Rattle.dt_record.specs.Actions.{Held}
use Rattle.dt_stores.proofs.MergeLaws.{put_is}
use Rattle.dt_stores.proofs.entries.Entry.put_over.Goals as goal

pub returns : goal.returns
returns c =
    let width : c.self.inside.store.width ≡ c.args.self.now.store.width = ap (λ (h : Held). h.store.width) c.self.view_is in
    let value : c.self.inside.store.value ≡ c.args.self.now.store.value = ap (λ (h : Held). h.store.value) c.self.view_is in
    c.put.ensures
    ∙ put_is c.args.bytes.now c.to_le_bytes-low.result c.place-place.result c.from.result c.self.inside.store.value c.args.self.now.store
    c.to_le_bytes-low.ensures value c.place-place.ensures.at (c.from.ensures ∙ width) (omega arith)
