use Rattle.std.proofs.Common.{◌≡◌, ◌++◌, map, true}
use Rattle.std.specs.List.{flat_map}
use Rattle.std.specs.Prelude.{All}
use Rattle.std.specs.Vec.Iter.{into_iter_items}
use Rattle.dt_worker.specs.Ends.{has_finished}
use Rattle.dt_pool.specs.Joining.{AreSameFeeds, IsMet, IsPaired}
use Rattle.dt_pool.proofs.joining.gather.Given as goal

-- the first ends are apart, and the others are left
abbrev pub invariant-loop-end : goal.invariant-loop-end
invariant-loop-end l =
    goal.iterator-loop-end.can_next l.end-iterator × goal.iterator-loop-end.is_finite l.end-iterator
    × AreSameFeeds l.initial.feeds.items l.feeds.items
    × All (λ e. All (IsPaired l.initial.feeds.items) e.takes.items) (into_iter_items l.end-iterator)
    × (l.passes.items ++ map (λ e. e.pass) (into_iter_items l.end-iterator) ≡ map (λ e. e.pass) l.fn.ends.items)
    × (l.harts.items ++ flat_map (λ e. e.harts.items) (into_iter_items l.end-iterator) ≡ flat_map (λ e. e.harts.items) l.fn.ends.items)
    × (All (λ e. has_finished e ≡ true) (into_iter_items l.end-iterator) → All (λ e. has_finished e ≡ true) l.fn.ends.items)
    × (All (λ e. All (IsMet l.initial.feeds.items) e.takes.items) (into_iter_items l.end-iterator)
    → All (λ e. All (IsMet l.initial.feeds.items) e.takes.items) l.fn.ends.items)
