use Rattle.std.proofs.Common.{◌≡◌, ◌-◌, ◌≤◌, cond, eqb, length, get_or, ◌∙◌, arith}
use Rattle.dt_short_bytes.proofs.ShortPresence.{bit_is, bit_small, presence_more, bound_more}
use Rattle.dt_short_bytes.proofs.short.presence_of.Goals as goal

pub loop-left-preserved : goal.loop-left-preserved
loop-left-preserved c =
    let l = c.loop-left in
    let numbers = c.args.numbers.now in
    let number = get_or numbers (l.left - 1) 0 in
    let is : c.from.result ≡ cond (eqb number 0) 0 1 = c.from.ensures ∙ bit_is (eqb number 0) in
    let small : c.from.result ≤ 1 = bit_small c.from.result (eqb number 0) is in
    record {
      within = omega arith;
      so_far = presence_more numbers l.left l.bits c.from.result c.loop-left-test.true l.invariant.within l.invariant.so_far is;
      bound = bound_more (length numbers) l.left l.bits c.from.result c.loop-left-test.true l.invariant.within small l.invariant.bound;
    }
