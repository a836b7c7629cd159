use Rattle.dt_translate.specs.Outcomes.{entry_at}
use Rattle.dt_translate.proofs.Pages.{LeadsToHalf-outcome_at}
use Rattle.dt_translate.proofs.outcomes.fetch_outcome.Goals as goal

pub returns-clause-leads : goal.returns-clause-leads
returns-clause-leads c =
    let image = c.args.moments.now.image in
    let writes = c.args.moments.now.writes in
    let keeps = c.leaf_decides.ensures.offset (entry_at image writes c.args.k) c.args.a c.requires.args in
    rw c.outcome.ensures (LeadsToHalf-outcome_at image writes c.args.k c.args.a keeps c.requires.even)
