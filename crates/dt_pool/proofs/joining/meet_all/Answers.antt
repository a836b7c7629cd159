use Rattle.std.proofs.Common.{◌≡◌, ◌<◌, ℕ, ◌∷◌, length, get_or, sym, ◌∙◌, arith}
use Rattle.std.specs.Vec.Iter.{into_iter_items}
use Rattle.std.proofs.lemmas.List.{get_or_default}
use Rattle.std.proofs.lemmas.List.Elements.{All-cons, All-head, All-rest, All-same}
use Rattle.dt_queue.specs.declared.ends.Feed.{Feed}
use Rattle.dt_queue.specs.declared.ends.Take.{Take}
use Rattle.dt_queue.specs.Queue.{known_items}
use Rattle.dt_pool.specs.Joining.{AreSameFeeds, IsMet, IsPaired}
use Rattle.dt_pool.proofs.Meeting.{met_one, same_but_one, same_feeds, same_further}
use Rattle.dt_pool.proofs.joining.meet_all.Goals as goal

pub loop-hart-init : goal.loop-hart-init
loop-hart-init c =
    let feeds = c.args.feeds.now.items in
    let items = into_iter_items c.into_iter-hart-iterator.result in
    let all : items ≡ c.args.takes.items = c.into_iter-hart-iterator.ensures.into_iter_gives.0 in (
      tt,
      tt,
      same_feeds feeds,
      All-same (IsPaired feeds) items c.args.takes.items all c.requires.paired,
      λ met. All-same (IsMet feeds) c.args.takes.items items (sym all) met,
    )

pub loop-hart-preserved : goal.loop-hart-preserved
loop-hart-preserved c =
    let initial = c.args.feeds.now.items in
    let feeds = c.loop-hart.feeds.items in
    let t : ℕ × Take = (c.in-Some.hart, c.in-Some.take) in
    let items = into_iter_items c.loop-hart.hart-iterator in
    let rest = into_iter_items c.next.new.self in
    let next : items ≡ t ∷ rest = c.in-Some.ensures.steps.0 in
    let inv = c.loop-hart.invariant in
    let same : AreSameFeeds initial feeds = inv.2 in
    let pair : IsPaired initial t = All-head (IsPaired initial) t rest (All-same (IsPaired initial) (t ∷ rest) items (sym next) inv.3) in
    let k = c.from.result in
    let at : k ≡ c.in-Some.hart = c.from.ensures in
    let old = c.index_mut.result.now in
    let within : k < length feeds = omega (arith, pair.within, same.size, at) in
    let is : (d : Feed) → get_or feeds k d ≡ old = λ d. get_or_default feeds k d old within ∙ sym c.index_mut.ensures.value in (
      tt,
      tt,
      same_further initial feeds _ same (same_but_one feeds k old c.meet.new.f within is c.meet.ensures.queue.0 c.meet.ensures.fed),
      All-rest (IsPaired initial) t rest items next inv.3,
      λ met.
          let here : IsMet initial t
          = met_one initial feeds c.in-Some.hart k old c.meet.new.f c.in-Some.take c.meet.new.t (known_items c.meet.new.t) same at pair.within is
          c.meet.ensures.all c.meet.ensures.fed c.meet.ensures.taken in
          inv.4 (All-same (IsMet initial) items (t ∷ rest) next (All-cons (IsMet initial) t rest here met)),
    )
