use Rattle.std.proofs.Common.{◌<◌, List, ℕ, length, subst, arith}
use Rattle.dt_worker.specs.Workers.{IsNewWorker}
use Rattle.dt_pool.proofs.Making.{first_left, one_more_worker, rest_left}
use Rattle.dt_pool.proofs.opening.make_workers.Goals as goal

pub loop-number-preserved : goal.loop-number-preserved
loop-number-preserved c =
    let number = c.loop-number.number in
    let inv = c.loop-number.invariant in
    let passes = c.args.passes in
    let hands = c.args.hands in
    let pass = c.remove-pass.result in
    let hand = c.remove-hand.result in
    let worker = c.in_ok-worker.worker in
    let passes_in : number < length passes.items = omega (arith, c.loop-number-test.true, c.len-number-end.ensures, passes.ok.0) in
    let hands_in : number < length hands.items = omega (arith, passes_in, c.requires.enough, passes.ok.0, hands.ok.0) in
    record {
      passes = rest_left passes.items c.loop-number.passes.items c.remove-pass.new.self.items number inv.passes c.remove-pass.ensures.by_index.2;
      hands = rest_left hands.items c.loop-number.hands.items c.remove-hand.new.self.items number inv.hands c.remove-hand.ensures.by_index.2;
      made = one_more_worker c.args.image.now c.args.header.wide c.args.header.harts number passes.items hands.items
          c.loop-number.made.items c.push.new.self.items pass hand worker
          (λ p. first_left passes.items c.loop-number.passes.items number pass p inv.passes c.remove-pass.ensures.value passes_in)
          (λ h. first_left hands.items c.loop-number.hands.items number hand h inv.hands c.remove-hand.ensures.value hands_in)
          (subst (λ (image : List ℕ). IsNewWorker c.args.header.harts c.args.header.wide image pass hand.items worker) c.in_ok-copy.ensures c.in_ok-worker.ensures)
          c.in_ok-push.ensures.items inv.made;
    }
