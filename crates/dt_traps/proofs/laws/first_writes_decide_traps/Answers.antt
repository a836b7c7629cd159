use Rattle.dt_traps.proofs.Beginnings.{trap-same}
use Rattle.dt_traps.proofs.laws.first_writes_decide_traps.Goals as goal

pub returns : goal.returns
returns c = trap-same (record {
  moments = c.first_writes_decide.ensures.moments;
  windows = c.first_writes_decide.ensures.choices;
  halves = c.first_writes_decide_checks.ensures.halves;
  fetches = c.first_writes_decide_checks.ensures.fetches;
})
