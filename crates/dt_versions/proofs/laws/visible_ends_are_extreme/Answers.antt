use Rattle.std.proofs.Common.{arith}
use Rattle.dt_versions.proofs.laws.visible_ends_are_extreme.Goals as goal
use Rattle.dt_versions.specs.Spans.{first_visible, last_visible}

pub returns-clause-first : goal.returns-clause-first
returns-clause-first c writes key at ordered early =
    let ends = c.visible_is_interval.ensures writes key at ordered early in
    let first = first_visible writes key at in record {
      visible = (ends.exact first).1 (omega arith, ends.never_empty);
      least = λ j seen. ((ends.exact j).0 seen).0;
    }

pub returns-clause-last : goal.returns-clause-last
returns-clause-last c writes key at ordered early =
    let ends = c.visible_is_interval.ensures writes key at ordered early in
    let last = last_visible writes key at in record {
      visible = (ends.exact last).1 (ends.never_empty, omega arith);
      greatest = λ j seen. ((ends.exact j).0 seen).1;
    }
