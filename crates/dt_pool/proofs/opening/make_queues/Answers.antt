use Rattle.std.proofs.Common.{List, sym, subst, arith}
use Rattle.dt_queue.specs.declared.ends.Feed.{Feed}
use Rattle.dt_pool.specs.Opening.{AreHands}
use Rattle.dt_pool.proofs.Hands.{no_hands, one_more_hand}
use Rattle.dt_pool.proofs.opening.make_queues.Goals as goal

pub loop-hart-init : goal.loop-hart-init
loop-hart-init c =
    let hands = c.in_ok-hands.hands in
    subst (λ (feeds : List Feed). AreHands c.args.workers 0 feeds hands.items) (sym c.new-feeds.ensures.items)
    (no_hands c.args.workers hands.items (omega (arith, hands.ok.0, c.in_ok-hands.ensures.count)) c.in_ok-hands.ensures.empty)

pub loop-hart-preserved : goal.loop-hart-preserved
loop-hart-preserved c =
    one_more_hand c.args.workers c.loop-hart.hart c.loop-hart.feeds.items c.push.new.self.items c.in_ok-feed.feed c.in_ok-feed.take
    c.loop-hart.hands.items c.give.new.hands.items
    c.loop-hart.invariant c.in_ok-feed.ensures.feed.0 c.in_ok-feed.ensures.pair c.in_ok-feed.ensures.take.0 c.in_ok-push.ensures.items c.in_ok-give.ensures

pub returns : goal.returns
returns c =
    subst (λ n. AreHands c.args.workers n c.loop-hart.feeds.items c.loop-hart.hands.items)
    (omega (arith, c.loop-hart.auto.hart-end, c.loop-hart-test.false)) c.loop-hart.invariant
