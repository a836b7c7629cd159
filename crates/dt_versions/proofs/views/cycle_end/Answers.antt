use Rattle.std.proofs.Common.{◌-◌, ◌<◌, ◌≤◌, ap, arith, leb, length}
use Rattle.std.proofs.lemmas.List.{get_or_default}
use Rattle.std.proofs.lemmas.List.Sorted.{IsNonDecreasingBy-drop, IsNonDecreasingBy-take}
use Rattle.dt_versions.proofs.Halving.{stamps_rise}
use Rattle.dt_versions.proofs.Lasts.{point-of_part}
use Rattle.dt_versions.proofs.Orders.{no_write}
use Rattle.dt_versions.proofs.views.cycle_end.Goals as goal

pub until_cycle_end-requires : goal.until_cycle_end-requires
until_cycle_end-requires c =
    let writes = c.args.writes.now in
    IsNonDecreasingBy-take (λ w. w.key.stamp) (length writes - c.args.start) _ (IsNonDecreasingBy-drop (λ w. w.key.stamp) c.args.start writes (stamps_rise writes c.requires.in_order))

pub returns-then-at-writes-clause-parts : goal.returns-then-at-writes-clause-parts
returns-then-at-writes-clause-parts c =
    let writes = c.args.writes.now in
    let inside : c.args.start < length writes = omega arith in (
      λ i d from to. omega (arith, c.requires.earlier i d to),
      λ i d from to. omega (arith, stamps_rise writes c.requires.in_order c.args.start i d from to, ap (λ w. w.key.stamp) (get_or_default writes c.args.start d no_write inside), c.if-at-writes.true),
    )

pub returns-clause-parts : goal.returns-clause-parts
returns-clause-parts c =
    let writes = c.args.writes.now in
    point-of_part (λ w. leb w.key.stamp c.args.at) writes no_write (λ w. w.key.stamp ≤ c.args.at) (λ w. c.args.at < w.key.stamp) c.args.start (length writes) c.until_cycle_end.result
    c.requires.within (omega arith) (λ i d to. omega (arith, c.requires.earlier i d to)) (λ i d from to. absurd (omega arith)) c.until_cycle_end.ensures.within c.until_cycle_end.ensures.parts
