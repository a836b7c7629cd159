use Rattle.std.proofs.Common.{ℕ, ◌+◌, IsTrue, subst, sym, ap, ◌∙◌, arith}
use Rattle.dt_record.specs.Keys.{key_of}
use Rattle.dt_reference.specs.HartActions.{action_of}
use Rattle.dt_hart.specs.Counting.{IsCounted}
use Rattle.dt_hart.specs.HartView.{HartView}
use Rattle.dt_hart.specs.Marks.{KeepsMarks}
use Rattle.dt_hart.specs.Standing.{HartStands}
use Rattle.dt_hart.specs.Taking.{is_placed}
use Rattle.dt_hart.proofs.Counted.{counts_later}
use Rattle.dt_hart.proofs.GoingOn.{Laws, goes_on, kept}
use Rattle.dt_hart.proofs.SameHart.{hart_stays}
use Rattle.dt_hart.proofs.harts.Hart.take_record.Goals as goal

pub returns-clause-goes_on : goal.returns-clause-goes_on
returns-clause-goes_on c = λ s moment stands g known.
    let laws : Laws = record {
      state = c.state_goes_on.ensures;
      actions = c.actions_go_on.ensures;
      knowing = c.knowing_goes_on.ensures;
      added = c.notes_are_added.ensures;
      choice = record { goes_on = c.least_choice_goes_on.ensures; is_least = c.least_choice_is_least.ensures };
      judging = c.judged_goes_on.ensures;
    } in
    goes_on laws c.self.inside.arch c.advance.new.a c.self.inside.seq c.self.inside.stamp c.self.inside.accesses c.take_effects.new.accesses
    c.self.inside.reserved c.reserved_by-self-inside.result c.self.inside.windows c.take_effects.new.windows c.args.event.now c.args.sources
    (subst (λ (v : HartView). IsTrue (is_placed (action_of v.seq c.args.event.now))) (sym c.self.view_is) c.requires.placed)
    c.advance.ensures.state c.in_ok-take_effects.ensures.follows c.reserved_by-self-inside.ensures c.in_ok-take_effects.ensures.fences s moment
    (subst (λ (v : HartView). HartStands v s) (sym c.self.view_is) stands) g known

pub returns-clause-number : goal.returns-clause-number
returns-clause-number c =
    ap (λ a. a.hart) c.advance.ensures.state ∙ hart_stays c.self.inside.arch c.args.event.now.body ∙ ap (λ (v : HartView). v.arch.hart) c.self.view_is

pub take_effects-requires-clause-counted : goal.take_effects-requires-clause-counted
take_effects-requires-clause-counted c =
    counts_later c.self.inside.accesses.stores (record { stamp = c.self.inside.stamp; hart = c.self.inside.arch.hart; seq = c.self.inside.seq }) (key_of c.self.inside.seq c.args.event.now)
    (omega (arith, ap (λ (v : HartView). v.stamp) c.self.view_is, c.requires.in_time)) (ap (λ (v : HartView). v.arch.hart) c.self.view_is ∙ sym c.requires.its) (omega arith) c.self.invariant.2

pub invariant_of-self-2 : goal.invariant_of-self-2
invariant_of-self-2 c =
    let number = ap (λ a. a.hart) c.advance.ensures.state ∙ hart_stays c.self.inside.arch c.args.event.now.body ∙ ap (λ (v : HartView). v.arch.hart) c.self.view_is in
    let Counted : ℕ → Type 0 = λ hart. IsCounted c.take_effects.new.accesses.stores (record { stamp = c.args.event.now.stamp; hart = hart; seq = c.self.inside.seq + 1 }) in
    (c.advance.ensures.arch, c.advance.ensures.reachable c.self.invariant.1, subst Counted (c.requires.its ∙ sym number) c.in_ok-take_effects.ensures.counted)

pub returns-clause-marks : goal.returns-clause-marks
returns-clause-marks c =
    let effects = c.in_ok-take_effects.ensures in
    subst (λ (v : HartView). KeepsMarks v (kept c.advance.new.a (c.self.inside.seq + 1) c.args.event.now.stamp c.take_effects.new.accesses c.reserved_by-self-inside.result c.take_effects.new.windows)) c.self.view_is
    (record { stores = effects.marks.stores; local = effects.marks.local; windows = effects.windows_marks })
