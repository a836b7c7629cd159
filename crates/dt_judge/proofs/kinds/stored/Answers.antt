use Rattle.dt_judge.proofs.Placing.{only_store}
use Rattle.dt_judge.proofs.kinds.stored.Goals as goal

pub returns-in_default : goal.returns-in_default
returns-in_default c = absurd (only_store c.args.st.plan c.requires.due c.in_default.not-NeedsStore)
