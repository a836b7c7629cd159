use Rattle.std.proofs.Common.{rules}
use Rattle.dt_shared.proofs.Steps.{draws_for, comes_for}
use Rattle.dt_shared.proofs.Told.{takes_turn}
use Rattle.dt_shared.proofs.turns.wait_turn.Goals as goal

pub fetch_add-ticket-requires : goal.fetch_add-ticket-requires
fetch_add-ticket-requires g c = let r = c.requires.rests in (search rules, search rules, draws_for _ _ _ _ r.0 r.1 r.2)

pub load-requires : goal.load-requires
load-requires g c = let w = c.loop.invariant.1 in (search rules, search rules, comes_for _ _ _ _ _ _ w.0 w.1)

pub returns-then-load-ticket-clause-turn : goal.returns-then-load-ticket-clause-turn
returns-then-load-ticket-clause-turn g c = let w = c.loop.invariant.1 in takes_turn _ _ _ w.0 _ _ w.1 w.2 c.if-load-ticket.true c.load.ensures.2
