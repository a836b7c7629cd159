use Rattle.std.proofs.Common.{List, sym, ap, ◌∙◌, subst}
use Rattle.dt_record.specs.declared.records.Record.{Record}
use Rattle.dt_intake.specs.Fronts.{AreUsable}
use Rattle.dt_intake.specs.Intakes.{usable_of}
use Rattle.dt_intake.proofs.Counting.{IsCounted-front, IsCounted-len}
use Rattle.dt_intake.proofs.FrontLaws.{AreUsable-front}
use Rattle.dt_intake.proofs.intakes.Intake.usable.Goals as goal

pub slice_bounds-result-end : goal.slice_bounds-result-end
slice_bounds-result-end c =
    IsCounted-len c.self.inside.hart c.self.inside.taken.items c.deref.result.now c.self.inside.usable_len c.self.inside.told c.self.invariant c.deref.ensures.value

pub returns-clause-front : goal.returns-clause-front
returns-clause-front c =
    IsCounted-front c.self.inside.hart c.self.inside.taken.items c.deref.result.now c.self.inside.usable_len c.self.inside.told c.self.invariant c.deref.ensures.value
    ∙ ap usable_of c.self.view_is

pub returns-clause-usable : goal.returns-clause-usable
returns-clause-usable c =
    let front = IsCounted-front c.self.inside.hart c.self.inside.taken.items c.deref.result.now c.self.inside.usable_len c.self.inside.told c.self.invariant c.deref.ensures.value
    ∙ ap usable_of c.self.view_is in
    subst (λ (rs : List Record). AreUsable c.args.self.now.hart rs) (sym front) (AreUsable-front c.args.self.now.hart c.args.self.now.taken)
