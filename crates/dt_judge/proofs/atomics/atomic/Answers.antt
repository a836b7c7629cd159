use Rattle.std.proofs.Common.{ℕ, List, sym}
use Rattle.dt_rules.specs.declared.misfits.Passed.{Passed}
use Rattle.dt_record.specs.declared.records.Body.TheVariants as body
use Rattle.dt_record.specs.Actions.{Action}
use Rattle.dt_reference.specs.HartActions.{body_action}
use Rattle.dt_judge.specs.Keeping.{IsAccessedBy, IsReadIn, Remembers, grounds_kept}
use Rattle.dt_judge.specs.Kinds.{AtomicBy, started}
use Rattle.dt_judge.proofs.AtomicReads.{accessed_is_read}
use Rattle.dt_judge.proofs.Leading.{if_ok, leads_ok}
use Rattle.dt_judge.proofs.atomics.atomic.Goals as goal

pub returns-clause-finds : goal.returns-clause-finds
returns-clause-finds c = λ actions moments known.
    let g = grounds_kept c.args.sight.now.hart.now c.args.sight.now.moments.now c.args.sight.now.last actions moments in
    leads_ok (started g c.args.retire.pc c.args.retire.bits 7) c.in_ok-st.st (λ st found. AtomicBy g c.args.key st.stale st.plan c.args.said found) c.planned.result
    (sym c.in_ok-st.ensures.value) (c.planned.ensures.finds actions moments known)

pub returns-clause-read : goal.returns-clause-read
returns-clause-read c =
    let h = c.args.sight.now.hart.now in
    let m = c.args.sight.now.moments.now in
    let said = c.args.said in
    let plan = c.in_ok-st.st.plan in
    if_ok c.planned.result
    (λ (x : Passed). (actions : List Action) (moments : ℕ → ℕ) → Remembers h m c.args.key actions moments → IsAccessedBy m.writes plan c.args.key said.paddr said.width x.sources)
    (λ (x : Passed). (actions : List Action) (moments : ℕ → ℕ) → Remembers h m c.args.key actions moments
    → IsReadIn m.image m.writes actions moments (body_action c.args.key (body.Atomic c.args.retire said.paddr said.width said.wrote said.new)) x.sources)
    (λ x read actions moments known.
    accessed_is_read m.image m.writes actions moments c.args.key c.args.sight.now.hart.now.arch c.args.retire said.paddr said.width said.wrote said.new plan x.sources c.in_ok-st.ensures.retired (read actions moments known))
    c.planned.ensures.read
