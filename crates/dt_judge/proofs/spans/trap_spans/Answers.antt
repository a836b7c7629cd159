use Rattle.std.proofs.Common.{ℕ, Option, ap, ◌∙◌}
use Rattle.std.specs.Option.{unwrap_or}
use Rattle.dt_step.specs.declared.state.Arch.{Arch}
use Rattle.dt_traps.specs.Instructions.{access_address}
use Rattle.dt_judge.specs.Keeping.{window_kept}
use Rattle.dt_judge.proofs.spans.trap_spans.Goals as goal

pub returns : goal.returns
returns c =
    let address = c.access_address.ensures ∙ ap (λ (a : Arch). access_address a c.args.bits) c.arch.ensures.value in
    let va = c.unwrap_or-va.ensures ∙ ap (λ (o : Option ℕ). unwrap_or o 0) address in
    let access = c.window.ensures ∙ ap (window_kept c.args.sight.now.hart.now c.args.sight.now.moments.now.writes c.args.sight.now.last) va in
    λ i. record { fetch = c.fetch_spans.ensures i; access = access i }
