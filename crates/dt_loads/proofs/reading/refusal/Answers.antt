use Rattle.std.proofs.Common.{ap, ◌∙◌}
use Rattle.dt_alu.specs.Extend.{extend_value}
use Rattle.dt_record.specs.declared.reasons.Reason.TheVariants.{LoadSource}
use Rattle.dt_record.specs.LoadSources.{found_value}
use Rattle.dt_rules.specs.Checks.{misfit}
use Rattle.dt_loads.proofs.LastVisible.{end_is_last}
use Rattle.dt_loads.proofs.reading.refusal.Goals as goal

pub returns : goal.returns
returns c = λ actions stands.
    let m = c.args.m.now in
    let ask = c.args.ask in
    let last = end_is_last m.writes ask.key ask.at c.visible-last.result.first c.visible-last.result.last c.visible-last.ensures.visible in
    let found = c.found_at.ensures actions stands ∙ ap (λ k. found_value m.image m.writes actions ask k ask.width ask.addr) last in
    ap (λ n. misfit LoadSource n c.args.value) (c.extend.ensures.value ∙ ap (extend_value ask.width c.args.signed) found)
