use Rattle.std.proofs.Common.{ℕ, List, sym, subst}
use Rattle.std.specs.Prelude.{IfOk}
use Rattle.dt_rules.specs.declared.misfits.Passed.{Passed}
use Rattle.dt_record.specs.declared.records.Body.{Body}
use Rattle.dt_record.specs.declared.records.Body.TheVariants as body
use Rattle.dt_record.specs.Actions.{Action}
use Rattle.dt_reference.specs.HartActions.{body_action}
use Rattle.dt_judge.specs.declared.atomics.Said.{Said}
use Rattle.dt_judge.specs.Judgement.{FindsBody}
use Rattle.dt_judge.specs.Kinds.{IsAtomicFinding}
use Rattle.dt_judge.specs.Keeping.{IsReadIn, Remembers, WasFound, grounds_kept}
use Rattle.dt_judge.proofs.Leading.{if_ok}
use Rattle.dt_judge.proofs.findings.finding.Goals as goal

pub returns-in-Commit-clause-finds : goal.returns-in-Commit-clause-finds
returns-in-Commit-clause-finds c = λ actions moments known.
    let g = grounds_kept c.args.h.now c.args.m.now c.args.seen.last actions moments in
    subst (λ (b : Body). FindsBody g c.args.key b c.commit.result) (sym c.in-Commit.is) (c.commit.ensures.finds actions moments known.stores)

pub returns-in-Trap-clause-finds : goal.returns-in-Trap-clause-finds
returns-in-Trap-clause-finds c = λ actions moments known.
    let g = grounds_kept c.args.h.now c.args.m.now c.args.seen.last actions moments in
    subst (λ (b : Body). FindsBody g c.args.key b c.trap.result) (sym c.in-Trap.is) (c.trap.ensures actions moments)

pub returns-in-Load-clause-finds : goal.returns-in-Load-clause-finds
returns-in-Load-clause-finds c = λ actions moments known.
    let g = grounds_kept c.args.h.now c.args.m.now c.args.seen.last actions moments in
    subst (λ (b : Body). FindsBody g c.args.key b c.load.result) (sym c.in-Load.is) (c.load.ensures.finds actions moments known)

pub returns-in-Store-clause-finds : goal.returns-in-Store-clause-finds
returns-in-Store-clause-finds c = λ actions moments known.
    let g = grounds_kept c.args.h.now c.args.m.now c.args.seen.last actions moments in
    subst (λ (b : Body). FindsBody g c.args.key b c.store.result) (sym c.in-Store.is) (c.store.ensures.finds actions moments)

pub returns-in-Atomic-clause-finds : goal.returns-in-Atomic-clause-finds
returns-in-Atomic-clause-finds c = λ actions moments known.
    let g = grounds_kept c.args.h.now c.args.m.now c.args.seen.last actions moments in
    let retire = c.in-Atomic.retire in
    let found = subst (λ (said : Said). IsAtomicFinding g c.args.key retire.pc retire.bits said c.atomic.result) c.said_as-said.ensures (c.atomic.ensures.finds actions moments known) in
    subst (λ (b : Body). FindsBody g c.args.key b c.atomic.result) (sym c.in-Atomic.is) found

pub returns-in-Atomic-clause-found : goal.returns-in-Atomic-clause-found
returns-in-Atomic-clause-found c =
    let h = c.args.h.now in
    let m = c.args.m.now in
    let its : Body = body.Atomic c.in-Atomic.retire c.in-Atomic.paddr c.in-Atomic.width c.in-Atomic.wrote c.in-Atomic.new in
    if_ok c.atomic.result
    (λ (x : Passed). (actions : List Action) (moments : ℕ → ℕ) → Remembers h m c.args.key actions moments → IsReadIn m.image m.writes actions moments (body_action c.args.key its) x.sources)
    (λ (x : Passed). (actions : List Action) (moments : ℕ → ℕ) → Remembers h m c.args.key actions moments → WasFound m.image m.writes actions moments c.args.key c.args.event.now.body x.sources)
    (λ x read actions moments known.
    subst (λ (b : Body). WasFound m.image m.writes actions moments c.args.key b x.sources) (sym c.in-Atomic.is) (record { is_read = read actions moments known; is_drained = tt }))
    (subst
    (λ (said : Said). IfOk c.atomic.result (λ (x : Passed). (actions : List Action) (moments : ℕ → ℕ) → Remembers h m c.args.key actions moments
    → IsReadIn m.image m.writes actions moments (body_action c.args.key (body.Atomic c.in-Atomic.retire said.paddr said.width said.wrote said.new)) x.sources))
    c.said_as-said.ensures c.atomic.ensures.read)
