use Rattle.dt_feed.proofs.Parts.{gave_up}
use Rattle.dt_feed.proofs.feeding.feed.Goals as goal

pub returns-in-Refused-clause-fed : goal.returns-in-Refused-clause-fed
returns-in-Refused-clause-fed g c =
    let pushed = c.in-Refused.ensures.pushed in
    gave_up _ _ _ _ pushed.0 _ _ (λ e. cc) pushed.1 pushed.2

pub returns-in-Stopped-clause-fed : goal.returns-in-Stopped-clause-fed
returns-in-Stopped-clause-fed g c =
    let pushed = c.in-Stopped.ensures.pushed in
    gave_up _ _ _ _ pushed.0 _ _ (λ e. cc) pushed.1 pushed.2
