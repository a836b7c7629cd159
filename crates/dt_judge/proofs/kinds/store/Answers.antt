use Rattle.std.proofs.Common.{Result, IsTrue, ap, ◌∙◌}
use Rattle.dt_checks.specs.declared.starting.Started.{Started}
use Rattle.dt_hart.specs.Taking.{is_placed_at}
use Rattle.dt_rules.specs.declared.misfits.Misfit.{Misfit}
use Rattle.dt_rules.specs.Checks.{and_then}
use Rattle.dt_judge.specs.Keeping.{IsPlacedBy, grounds_kept}
use Rattle.dt_judge.specs.Kinds.{stored}
use Rattle.dt_judge.proofs.Leading.{on_ok}
use Rattle.dt_judge.proofs.Placing.{store_is_placed}
use Rattle.dt_judge.proofs.kinds.store.Goals as goal

pub returns-clause-placed : goal.returns-clause-placed
returns-clause-placed c =
    on_ok c.stored.result (IsPlacedBy c.in_ok-st.st.plan c.args.paddr) (IsTrue (is_placed_at c.args.bits c.args.paddr))
    (store_is_placed c.args.sight.now.hart.now.arch c.args.bits c.args.paddr c.in_ok-st.st.plan c.in_ok-st.ensures.retired) c.stored.ensures.placed

pub returns-clause-finds : goal.returns-clause-finds
returns-clause-finds c = λ actions moments.
    let g = grounds_kept c.args.sight.now.hart.now c.args.sight.now.moments.now c.args.sight.now.last actions moments in
    c.stored.ensures.finds actions moments
    ∙ ap (λ (r : Result Started Misfit). and_then r (λ st. stored g st.stale st.plan c.args.paddr c.args.value)) c.in_ok-st.ensures.value
