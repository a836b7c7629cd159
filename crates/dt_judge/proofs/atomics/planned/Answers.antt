use Rattle.std.proofs.Common.{ℕ, ◌≡◌, ◌||◌, Bool, true, List, sym, ap, subst, ◌∙◌}
use Rattle.std.specs.Prelude.{IfOk}
use Rattle.dt_access.specs.Translating.{walk_args}
use Rattle.dt_checks.specs.Addresses.{address_check}
use Rattle.dt_rules.specs.declared.misfits.Passed.{Passed}
use Rattle.dt_record.specs.Actions.{Action}
use Rattle.dt_step.specs.declared.plans.Planned.{Planned}
use Rattle.dt_walk.specs.declared.arguments.Access.{Access}
use Rattle.dt_judge.specs.Keeping.{IsAccessedBy, Remembers, grounds_kept, window_kept}
use Rattle.dt_judge.proofs.AtomicReads.{atomic_by}
use Rattle.dt_judge.proofs.atomics.planned.Goals as goal
use Rattle.dt_judge.proofs.atomics.planned.Goals.{then-st, else-st}

pub returns-after-st-clause-finds : goal.returns-after-st-clause-finds
returns-after-st-clause-finds c = λ actions moments known.
    let h = c.args.sight.now.hart.now in
    let m = c.args.sight.now.moments.now in
    let g = grounds_kept h m c.args.sight.now.last actions moments in
    let va = c.in-NeedsAtomic.va in
    let op = c.in-NeedsAtomic.op in
    let older = c.in_ok-older-in-NeedsAtomic.older in
    let there = ap (λ (a : Access). address_check m.image m.writes (window_kept h m.writes c.args.sight.now.last va) (walk_args h.arch a va) true c.args.said.paddr) c.atomic_access.ensures in
    let allowed = c.in_ok-older-in-NeedsAtomic.ensures.value ∙ there in
    let p : (c.args.st.stale || older) ≡ c.if-st.at_address =
    elim c.if-st.branch [
      | then-st w ↦ ap (λ (b : Bool). b || older) w.if-st.true ∙ sym (w.at_address-is ∙ w.if-st.true)
      | else-st w ↦ ap (λ (b : Bool). b || older) w.if-st.false ∙ sym w.at_address-is
    ] in
    atomic_by g c.args.key c.args.st.stale c.args.st.plan va c.in-NeedsAtomic.width op c.in-NeedsAtomic.aq c.in-NeedsAtomic.rl c.in-NeedsAtomic.rd c.in-NeedsAtomic.operand c.args.said
    older c.if-st.at_address c.at_address.result c.in-NeedsAtomic.is allowed p (c.at_address.ensures.finds c.args.sight.now.last actions moments known)

pub returns-after-st-clause-read : goal.returns-after-st-clause-read
returns-after-st-clause-read c =
    let h = c.args.sight.now.hart.now in
    let writes = c.args.sight.now.moments.now.writes in
    let said = c.args.said in
    subst
    (λ (plan : Planned). IfOk c.at_address.result (λ (x : Passed). (actions : List Action) (moments : ℕ → ℕ) → Remembers h c.args.sight.now.moments.now c.args.key actions moments
    → IsAccessedBy writes plan c.args.key said.paddr said.width x.sources))
    (sym c.in-NeedsAtomic.is) c.at_address.ensures.read
