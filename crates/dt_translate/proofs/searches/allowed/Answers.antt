use Rattle.std.proofs.Common.{◌≡◌, arith, rules}
use Rattle.dt_translate.specs.Newest.{HasNone}
use Rattle.dt_translate.specs.Outcomes.{outcome_at}
use Rattle.dt_translate.proofs.Moments.{allowed_moment-some, allowed_moment-none}
use Rattle.dt_translate.proofs.Steadiness.{no_outcome-down}
use Rattle.dt_translate.proofs.searches.allowed.Goals as goal

pub returns-then-eq-clause-value : goal.returns-then-eq-clause-value
returns-then-eq-clause-value c = allowed_moment-some _ _ _ _ _ _ c.down.k (search rules)

pub down-preserved : goal.down-preserved
down-preserved c =
    let image = c.args.m.now.image in
    let writes = c.args.m.now.writes in
    let fails : ¬ (outcome_at image writes c.down.k c.args.a c.args.ram_only ≡ c.args.wanted) = search rules in
    record {
      within = omega (arith, c.down.invariant.within, c.steady_walk-from.ensures.within);
      tried = λ j inside above.
          no_outcome-down image writes c.steady_walk-from.result c.down.k c.args.a c.args.ram_only c.args.wanted c.args.window c.down.invariant.tried c.steady_walk-from.ensures.steady fails
          j inside (omega arith);
    }

none : (c : goal.Then-from-eq0) → HasNone (λ j. outcome_at c.args.m.now.image c.args.m.now.writes j c.args.a c.args.ram_only ≡ c.args.wanted) c.args.window
none c =
    let image = c.args.m.now.image in
    let writes = c.args.m.now.writes in
    let fails : ¬ (outcome_at image writes c.down.k c.args.a c.args.ram_only ≡ c.args.wanted) = search rules in
    λ j inside.
    no_outcome-down image writes c.steady_walk-from.result c.down.k c.args.a c.args.ram_only c.args.wanted c.args.window c.down.invariant.tried c.steady_walk-from.ensures.steady fails
    j inside (omega arith)

pub returns-then-from-eq0-clause-none : goal.returns-then-from-eq0-clause-none
returns-then-from-eq0-clause-none c = none c

pub returns-then-from-eq0-clause-value : goal.returns-then-from-eq0-clause-value
returns-then-from-eq0-clause-value c = allowed_moment-none _ _ _ _ _ _ (none c)

pub returns-clause-value : goal.returns-clause-value
returns-clause-value c = allowed_moment-none _ _ _ _ _ _ (search rules)
