use Rattle.std.proofs.Common.{arith, true}
use Rattle.dt_translate.specs.Fetches.{IsChosen, IsNeverFetched}
use Rattle.dt_translate.proofs.Choices.{IsChosen-newest, IsTriedAbove-next}
use Rattle.dt_translate.proofs.Moments.{fetch_moments-some, fetch_moments-none}
use Rattle.dt_translate.proofs.Steadiness.{outcome_at-same}
use Rattle.dt_translate.proofs.searches.fetch.Goals as goal

chosen : (c : goal.In-Some) → IsChosen c.args.m.now.image c.args.m.now.writes c.args.window c.args.since c.args.a c.args.half c.down.moment c.in-Some.held
chosen c =
    IsChosen-newest _ _ _ _ _ _ _ _ c.fetch_outcome-translated.result c.fetch_outcome-translated.ensures.value
    (record { from = omega arith; to = omega (arith, c.down.invariant.within) }) c.down.invariant.tried c.in-Some.ensures.found

never : (c : goal.After-down) → IsNeverFetched c.args.m.now.image c.args.m.now.writes c.args.window c.args.since c.args.a c.args.half
never c = λ k1 k2 inside. c.down.invariant.tried k1 k2 inside (omega (arith, inside.from))

pub returns-in-Some-clause-value : goal.returns-in-Some-clause-value
returns-in-Some-clause-value c = fetch_moments-some _ _ _ _ _ _ _ _ (chosen c)

pub returns-in-Some-clause-found : goal.returns-in-Some-clause-found
returns-in-Some-clause-found c = chosen c

pub down-preserved : goal.down-preserved
down-preserved c =
    let image = c.args.m.now.image in
    let writes = c.args.m.now.writes in
    record {
      within = omega (arith, c.down.invariant.within, c.steady_walk-from.ensures.within);
      tried = λ k1 k2 inside above.
          IsTriedAbove-next _ _ _ _ _ _ c.steady_walk-from.result c.down.moment c.fetch_outcome-translated.result c.fetch_outcome-translated.ensures.value
          (λ j after before. outcome_at-same image writes c.args.a true j c.down.moment (c.steady_walk-from.ensures.steady j after before))
          c.down.invariant.tried c.in_default.ensures.none k1 k2 inside (omega arith);
      in_vain = c.in_default.ensures.none;
    }

never_to_the_first : (c : goal.Then-from-eq0) → IsNeverFetched c.args.m.now.image c.args.m.now.writes c.args.window c.args.since c.args.a c.args.half
never_to_the_first c = λ k1 k2 inside.
    let image = c.args.m.now.image in
    let writes = c.args.m.now.writes in
    IsTriedAbove-next _ _ _ _ _ _ c.steady_walk-from.result c.down.moment c.fetch_outcome-translated.result c.fetch_outcome-translated.ensures.value
    (λ j after before. outcome_at-same image writes c.args.a true j c.down.moment (c.steady_walk-from.ensures.steady j after before))
    c.down.invariant.tried c.in_default.ensures.none k1 k2 inside (omega arith)

pub returns-then-from-eq0-clause-none : goal.returns-then-from-eq0-clause-none
returns-then-from-eq0-clause-none c = never_to_the_first c

pub returns-then-from-eq0-clause-value : goal.returns-then-from-eq0-clause-value
returns-then-from-eq0-clause-value c = fetch_moments-none _ _ _ _ _ _ (never_to_the_first c)

pub returns-clause-value : goal.returns-clause-value
returns-clause-value c = fetch_moments-none _ _ _ _ _ _ (never c)

pub returns-clause-none : goal.returns-clause-none
returns-clause-none c = never c
