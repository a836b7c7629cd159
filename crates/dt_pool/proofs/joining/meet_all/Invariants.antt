use Rattle.std.specs.Prelude.{All}
use Rattle.std.specs.Vec.Iter.{into_iter_items}
use Rattle.dt_pool.specs.Joining.{AreSameFeeds, IsMet, IsPaired}
use Rattle.dt_pool.proofs.joining.meet_all.Given as goal

-- the first queues are together again, and the others are left
abbrev pub invariant-loop-hart : goal.invariant-loop-hart
invariant-loop-hart l =
    goal.iterator-loop-hart.can_next l.hart-iterator × goal.iterator-loop-hart.is_finite l.hart-iterator
    × AreSameFeeds l.initial.feeds.items l.feeds.items
    × All (IsPaired l.initial.feeds.items) (into_iter_items l.hart-iterator)
    × (All (IsMet l.initial.feeds.items) (into_iter_items l.hart-iterator) → All (IsMet l.initial.feeds.items) l.fn.takes.items)
