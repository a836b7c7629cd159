use Rattle.std.proofs.Common.{rules}
use Rattle.std.proofs.lemmas.List.Sorted.{answers_always}
use Rattle.std.proofs.lemmas.Result.{on_ok_weaker}
use Rattle.dt_kept.specs.Traces.{traced_by_key, traced_key}
use Rattle.dt_kept.proofs.TraceOrder.{rises-traced_by_key, filter-traced_by_key}
use Rattle.dt_kept.proofs.tracing.sort.Goals as goal

pub returns : goal.returns
returns c =
    let keys = answers_always _ _ _ (λ f a r next called. search rules) in
    let before = c.args.traced.now.items in
    let after = c.sort_by_key.new.self.items in
    let stable = c.sort_by_key.ensures.stable traced_key keys in
    on_ok_weaker c.sort_by_key.result
    (λ sorted. c.stable_sorts_are_one.ensures traced_key before after (traced_by_key before) (sorted traced_key keys) stable
    (rises-traced_by_key before) (λ x. filter-traced_by_key x before))
    c.sort_by_key.ensures.sorted
