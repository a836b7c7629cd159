use Rattle.std.proofs.Common.{rules}
use Rattle.std.proofs.lemmas.List.Sorted.{answers_always}
use Rattle.std.proofs.lemmas.Result.{on_ok_weaker}
use Rattle.dt_record.specs.Writes.{by_key}
use Rattle.dt_writes.proofs.KeyOrder.{stable_sort_is_one}
use Rattle.dt_writes.proofs.WriteOrder.{write_key, in_order-by_key, rises_from_order, filter-by_key}
use Rattle.dt_writes.proofs.histories.sort.Goals as goal

pub returns : goal.returns
returns c =
    let keys = answers_always _ _ _ (λ f a r next called. search rules) in
    let before = c.args.writes.now.items in
    let after = c.sort_by_key.new.self.items in
    let stable = c.sort_by_key.ensures.stable write_key keys in
    on_ok_weaker c.sort_by_key.result
    (λ sorted. stable_sort_is_one write_key before after (by_key before) (sorted write_key keys) stable
    (rises_from_order (by_key before) (in_order-by_key before c.requires)) (λ x. filter-by_key x before c.requires))
    c.sort_by_key.ensures.sorted
