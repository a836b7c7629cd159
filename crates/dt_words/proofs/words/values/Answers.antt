use Rattle.dt_words.proofs.Parsing.{refused, taken}
use Rattle.dt_words.proofs.words.values.Goals as goal

pub returns-in-Ok-clause-found : goal.returns-in-Ok-clause-found
returns-in-Ok-clause-found c = taken _ _ _ _ c.in_ok-command_for.ensures c.in-Ok.ensures.kinds c.in-Ok.ensures.matches

pub returns-in-Err-clause-usage : goal.returns-in-Err-clause-usage
returns-in-Err-clause-usage c = λ usage. refused _ _ _ c.in-Err.error c.in_ok-command_for.ensures c.in-Err.ensures.kinds (λ memory. let e = c.refusal_of.ensures.memory memory in cc)
