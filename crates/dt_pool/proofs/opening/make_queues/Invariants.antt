use Rattle.dt_pool.specs.Opening.{AreHands}
use Rattle.dt_pool.proofs.opening.make_queues.Given as goal

-- the first harts are handed over
abbrev pub invariant-loop-hart : goal.invariant-loop-hart
invariant-loop-hart l = AreHands l.workers l.hart l.feeds.items l.hands.items
