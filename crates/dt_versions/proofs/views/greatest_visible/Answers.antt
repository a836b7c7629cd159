use Rattle.std.proofs.Common.{◌≡◌, ◌+◌, ◌-◌, ◌≤◌, true, false, drop, arith}
use Rattle.std.proofs.lemmas.List.{length-take}
use Rattle.dt_versions.specs.Cycles.{is_up_to_own}
use Rattle.dt_versions.proofs.CycleEnds.{IsPartitionedBy-cycle, closed-through_own, last-none, last-own}
use Rattle.dt_versions.proofs.Lasts.{part-between}
use Rattle.dt_versions.proofs.Orders.{no_write}
use Rattle.dt_versions.proofs.views.greatest_visible.Goals as goal
use Rattle.dt_versions.proofs.views.greatest_visible.Goals.{else-place-end-via-then-place-end+else-writes-place, else-place-end-via-else-place-end}

pub through_own_len-requires : goal.through_own_len-requires
through_own_len-requires c =
    IsPartitionedBy-cycle c.args.writes.now c.args.at c.args.start c.args.end c.requires.in_order c.requires.cycle (is_up_to_own c.args.key) (closed-through_own c.args.key)

pub returns-then-writes-place : goal.returns-then-writes-place
returns-then-writes-place c =
    let writes = c.args.writes.now in
    let test = is_up_to_own c.args.key in
    let place = c.args.start + c.through_own_len.result in
    let between = part-between test writes no_write (λ w. test w ≡ true) (λ w. test w ≡ false) c.args.start c.args.end c.through_own_len.result c.requires.cycle.ends c.requires.cycle.within
    c.through_own_len.ensures.within c.through_own_len.ensures.parts in
    let inside : place ≤ c.args.end = omega (arith, c.through_own_len.ensures.within, length-take (c.args.end - c.args.start) (drop c.args.start writes), c.requires.cycle.ends) in
    last-own writes c.args.at c.args.start c.args.end c.requires.in_order c.requires.cycle c.args.key c.requires.early place (omega arith) inside between c.if-place-end.true c.if-writes-place.true

pub returns-else-place-end : goal.returns-else-place-end
returns-else-place-end c =
    let writes = c.args.writes.now in
    let test = is_up_to_own c.args.key in
    let place = c.args.start + c.through_own_len.result in
    let between = part-between test writes no_write (λ w. test w ≡ true) (λ w. test w ≡ false) c.args.start c.args.end c.through_own_len.result c.requires.cycle.ends c.requires.cycle.within
    c.through_own_len.ensures.within c.through_own_len.ensures.parts in
    let inside : place ≤ c.args.end = omega (arith, c.through_own_len.ensures.within, length-take (c.args.end - c.args.start) (drop c.args.start writes), c.requires.cycle.ends) in
    last-none writes c.args.at c.args.start c.args.end c.requires.in_order c.requires.cycle c.args.key c.requires.early place (omega arith) inside between (λ some own. elim c.else-place-end.branch [
      | else-place-end-via-then-place-end+else-writes-place w ↦ w.if-writes-place.false own
      | else-place-end-via-else-place-end w ↦ omega arith
    ])
