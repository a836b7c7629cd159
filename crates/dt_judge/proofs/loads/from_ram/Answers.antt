use Rattle.std.proofs.Common.{sym, ◌∙◌}
use Rattle.dt_loads.specs.Checks.{order_check}
use Rattle.dt_judge.specs.Kinds.{ReadsRam}
use Rattle.dt_judge.specs.Keeping.{grounds_kept}
use Rattle.dt_judge.proofs.Leading.{leads_ok}
use Rattle.dt_judge.proofs.loads.from_ram.Goals as goal

pub returns-clause-finds : goal.returns-clause-finds
returns-clause-finds c = λ last actions moments known.
    leads_ok (order_check actions c.args.ask.at) c.in_ok-ordered.field-0
    (λ _ found. ReadsRam (grounds_kept c.args.h.now c.args.m.now last actions moments) c.args.p c.args.ask c.args.signed c.args.value found) c.sourced.result
    (sym (c.ordered.ensures actions known.stores known.floor) ∙ c.in_ok-ordered.was) (c.sourced.ensures.finds last actions moments known)
