use Rattle.dt_probe_file.proofs.Broken.{broken-malformed, fronts-answered, long-limited}
use Rattle.dt_probe_file.proofs.laws.broken_answers.Goals as goal

pub returns-clause-broken : goal.returns-clause-broken
returns-clause-broken c = broken-malformed

pub returns-clause-limited : goal.returns-clause-limited
returns-clause-limited c = long-limited

pub returns-clause-fronts : goal.returns-clause-fronts
returns-clause-fronts c = fronts-answered
