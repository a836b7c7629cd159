use Rattle.std.proofs.Common.{rules, ap, ◌∙◌}
use Rattle.std.proofs.lemmas.Fn.{filter_same}
use Rattle.dt_verdict.specs.declared.tallies.Noted.{Noted}
use Rattle.dt_tallies.specs.Counting.{is_below}
use Rattle.dt_tallies.specs.Naming.{notes_by_key}
use Rattle.dt_tallies.proofs.naming.named.Goals as goal

pub returns : goal.returns
returns c =
    let kept = filter_same _ (λ (n : Noted). is_below c.args.limit n.key) _ (λ x b q k. search rules) _ _ c.retain.ensures.filtered in
    c.of.ensures ∙ c.in_ok-sort.ensures ∙ ap notes_by_key kept
