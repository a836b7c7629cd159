use Rattle.std.proofs.Common.{◌≡◌, ◌+◌, ◌-◌, ◌≤◌, true, false, drop, arith}
use Rattle.std.proofs.lemmas.List.{length-take}
use Rattle.dt_versions.specs.Cycles.{is_up_to_before}
use Rattle.dt_versions.proofs.CycleEnds.{IsPartitionedBy-cycle, closed-before_own, first-none, first-own}
use Rattle.dt_versions.proofs.Lasts.{part-between}
use Rattle.dt_versions.proofs.Orders.{no_write}
use Rattle.dt_versions.proofs.views.least_visible.Goals as goal
use Rattle.dt_versions.proofs.views.least_visible.Goals.{else-start-place-via-then-start-place+else-writes-place, else-start-place-via-else-start-place}

pub before_own_len-requires : goal.before_own_len-requires
before_own_len-requires c =
    IsPartitionedBy-cycle c.args.writes.now c.args.at c.args.start c.args.end c.requires.in_order c.requires.cycle (is_up_to_before c.args.key) (closed-before_own c.args.key)

pub returns-then-writes-place : goal.returns-then-writes-place
returns-then-writes-place c =
    let writes = c.args.writes.now in
    let test = is_up_to_before c.args.key in
    let place = c.args.start + c.before_own_len.result in
    let between = part-between test writes no_write (λ w. test w ≡ true) (λ w. test w ≡ false) c.args.start c.args.end c.before_own_len.result c.requires.cycle.ends c.requires.cycle.within
    c.before_own_len.ensures.within c.before_own_len.ensures.parts in
    let inside : place ≤ c.args.end = omega (arith, c.before_own_len.ensures.within, length-take (c.args.end - c.args.start) (drop c.args.start writes), c.requires.cycle.ends) in
    first-own writes c.args.at c.args.start c.args.end c.requires.in_order c.requires.cycle c.args.key place (omega arith) inside between c.if-start-place.true c.if-writes-place.true

pub returns-else-start-place : goal.returns-else-start-place
returns-else-start-place c =
    let writes = c.args.writes.now in
    let test = is_up_to_before c.args.key in
    let place = c.args.start + c.before_own_len.result in
    let between = part-between test writes no_write (λ w. test w ≡ true) (λ w. test w ≡ false) c.args.start c.args.end c.before_own_len.result c.requires.cycle.ends c.requires.cycle.within
    c.before_own_len.ensures.within c.before_own_len.ensures.parts in
    let inside : place ≤ c.args.end = omega (arith, c.before_own_len.ensures.within, length-take (c.args.end - c.args.start) (drop c.args.start writes), c.requires.cycle.ends) in
    first-none writes c.args.at c.args.start c.args.end c.requires.in_order c.requires.cycle c.args.key place (omega arith) inside between (λ some own. elim c.else-start-place.branch [
      | else-start-place-via-then-start-place+else-writes-place w ↦ w.if-writes-place.false own
      | else-start-place-via-else-start-place w ↦ omega arith
    ])
