use Rattle.std.proofs.Common.{arith}
use Rattle.dt_versions.proofs.VisibleEnds.{AreVisible-ends, last_visible-le-length}
use Rattle.dt_versions.proofs.views.visible_ends.Goals as goal

pub least_visible-least-requires-clause-cycle : goal.least_visible-least-requires-clause-cycle
least_visible-least-requires-clause-cycle c = record {
  ends = c.cycle_end-end.ensures.least;
  within = c.cycle_end-end.ensures.within;
  earlier = λ i d to. c.cycle_start-start.ensures.parts.0 i d (omega arith) to;
  inside = λ i d from to. omega (arith, c.cycle_start-start.ensures.parts.1 i d from (omega (arith, c.cycle_end-end.ensures.within)), c.cycle_end-end.ensures.parts.0 i d (omega arith) to);
  later = c.cycle_end-end.ensures.parts.1;
}

pub greatest_visible-requires-clause-cycle : goal.greatest_visible-requires-clause-cycle
greatest_visible-requires-clause-cycle c = record {
  ends = c.cycle_end-end.ensures.least;
  within = c.cycle_end-end.ensures.within;
  earlier = λ i d to. c.cycle_start-start.ensures.parts.0 i d (omega arith) to;
  inside = λ i d from to. omega (arith, c.cycle_start-start.ensures.parts.1 i d from (omega (arith, c.cycle_end-end.ensures.within)), c.cycle_end-end.ensures.parts.0 i d (omega arith) to);
  later = c.cycle_end-end.ensures.parts.1;
}

pub returns-clause-visible : goal.returns-clause-visible
returns-clause-visible c =
    rw (c.least_visible-least.ensures, c.greatest_visible.ensures)
    (AreVisible-ends c.args.writes.now c.args.key c.args.at c.requires.in_order c.requires.early)

pub returns-clause-within : goal.returns-clause-within
returns-clause-within c = omega (arith, c.greatest_visible.ensures, last_visible-le-length c.args.writes.now c.args.key c.args.at)
