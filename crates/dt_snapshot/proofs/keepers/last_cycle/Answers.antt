use Rattle.dt_snapshot.proofs.Held.{last-state}
use Rattle.dt_snapshot.proofs.keepers.last_cycle.Goals as goal

pub returns-in-Some : goal.returns-in-Some
returns-in-Some g c = last-state c.args.dropped c.args.states.now c.in-Some.state.now c.in-Some.ensures.value
