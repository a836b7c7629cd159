use Rattle.std.proofs.Common.{Bool, List, ◌++◌, ap, ◌∙◌, arith}
use Rattle.std.proofs.lemmas.Result.{on_ok_weaker}
use Rattle.dt_record.specs.declared.records.Record.{Record}
use Rattle.dt_intake.specs.Fronts.{usable_front}
use Rattle.dt_intake.specs.Intakes.{IntakeView, is_over, news_from, usable_of}
use Rattle.dt_intake.proofs.Counting.{IsCounted-few, IsCounted-front, IsCounted-lawful, IsCounted-len}
use Rattle.dt_intake.proofs.intakes.Intake.add_news.Goals as goal

pub slice_bounds-usable-end : goal.slice_bounds-usable-end
slice_bounds-usable-end c =
    IsCounted-len c.self.inside.hart c.self.inside.taken.items c.deref.result.now c.self.inside.usable_len c.self.inside.told c.self.invariant c.deref.ensures.value

pub add_news-requires-clause-lawful : goal.add_news-requires-clause-lawful
add_news-requires-clause-lawful c =
    IsCounted-lawful c.self.inside.hart c.self.inside.taken.items c.deref.result.now c.self.inside.usable_len c.self.inside.told c.self.invariant c.deref.ensures.value

pub add_news-requires-clause-few : goal.add_news-requires-clause-few
add_news-requires-clause-few c =
    IsCounted-few c.self.inside.hart c.self.inside.taken.items c.deref.result.now c.self.inside.usable_len c.self.inside.told c.self.invariant c.deref.ensures.value

pub add_news-requires-clause-within : goal.add_news-requires-clause-within
add_news-requires-clause-within c =
    let size = IsCounted-len c.self.inside.hart c.self.inside.taken.items c.deref.result.now c.self.inside.usable_len c.self.inside.told c.self.invariant c.deref.ensures.value in
    let within = c.self.invariant.within in
    omega arith

pub returns-clause-appended : goal.returns-clause-appended
returns-clause-appended c =
    let front = IsCounted-front c.self.inside.hart c.self.inside.taken.items c.deref.result.now c.self.inside.usable_len c.self.inside.told c.self.invariant c.deref.ensures.value in
    on_ok_weaker c.add_news.result
    (λ added.
    added
    ∙ ap (λ (rs : List Record). c.args.notes.now.items ++ news_from c.self.inside.hart c.is_over-over.result c.self.inside.told rs) front
    ∙ ap (λ (over : Bool). c.args.notes.now.items ++ news_from c.self.inside.hart over c.self.inside.told (usable_front c.self.inside.hart c.self.inside.taken.items)) c.is_over-over.ensures
    ∙ ap (λ (v : IntakeView). c.args.notes.now.items ++ news_from v.hart (is_over c.args.self.now) v.told (usable_of v)) c.self.view_is)
    c.add_news.ensures.added
