use Rattle.dt_checks.proofs.Histories.{same_addresses, same_fetches, same_halves, same_starts}
use Rattle.dt_checks.proofs.laws.first_writes_decide_checks.Goals as goal

pub returns : goal.returns
returns c = record {
  halves = same_halves c.first_writes_decide.ensures.choices;
  fetches = same_fetches c.first_writes_decide.ensures.choices;
  starts = same_starts c.first_writes_decide.ensures.choices;
  addresses = same_addresses c.first_writes_decide.ensures.choices c.first_writes_decide.ensures.moments;
}
