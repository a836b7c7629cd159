use Rattle.std.proofs.Common.{ap, ◌∙◌, refl}
use Rattle.dt_record.specs.Actions.{raised}
use Rattle.dt_stores.specs.Kept.{Kept}
use Rattle.dt_stores.proofs.Keeping.{sound_fenced, raises}
use Rattle.dt_stores.proofs.StandingLaws.{stands_fenced}
use Rattle.dt_stores.proofs.GoingBack.{HasPast-same, KeepsMarks-same}
use Rattle.dt_stores.proofs.buffer.Stores.fence.Goals as goal

pub returns-clause-gains : goal.returns-clause-gains
returns-clause-gains c = λ rr actions stands. stands_fenced c.args.self.now _ c.args.ww c.args.wr rr actions
    (ap (λ (k : Kept). k.held) c.self.view_is)
    (c.count_fence-self-inside.ensures ∙ ap (λ (k : Kept). raised k.ww c.args.ww) c.self.view_is)
    (c.count_fence-self-inside-2.ensures ∙ ap (λ (k : Kept). raised k.wr c.args.wr) c.self.view_is)
    stands

pub returns-clause-marks : goal.returns-clause-marks
returns-clause-marks c = KeepsMarks-same c.args.self.now _ (ap (λ (k : Kept). k.keeps) c.self.view_is) (ap (λ (k : Kept). k.from) c.self.view_is)
    (ap (λ (k : Kept). k.past) c.self.view_is) (ap (λ (k : Kept). k.held) c.self.view_is)

pub invariant_of-self : goal.invariant_of-self
invariant_of-self c =
    let s = c.self.inside in
    HasPast-same _ _ s.ww s.wr c.count_fence-self-inside.result c.count_fence-self-inside-2.result s.lines.items s.lines.items s.steps s.steps refl (λ line. refl)
    (record { keeps = refl; from = refl; kept = refl; len = refl })
    (sound_fenced s.entries.items s.ww s.wr c.count_fence-self-inside.result c.count_fence-self-inside-2.result s.first s.late.items s.lines.items
    (raises s.ww c.args.ww c.count_fence-self-inside.result c.count_fence-self-inside.ensures) (raises s.wr c.args.wr c.count_fence-self-inside-2.result c.count_fence-self-inside-2.ensures)
    c.self.invariant.now)
    c.self.invariant
