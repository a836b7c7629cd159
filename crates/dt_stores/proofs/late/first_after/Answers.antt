use Rattle.std.proofs.Common.{slice_get, nat_lt, ap, ◌∙◌, sym}
use Rattle.std.proofs.lemmas.List.Folds.{find_at}
use Rattle.dt_stores.specs.declared.late.Late.{Late}
use Rattle.dt_stores.proofs.late.first_after.Goals as goal

pub returns : goal.returns
returns c = c.late_at.ensures ∙ ap (slice_get c.args.late.now) c.place_after.ensures ∙ sym (find_at (λ (l : Late). nat_lt c.args.at l.stamp) c.args.late.now)
