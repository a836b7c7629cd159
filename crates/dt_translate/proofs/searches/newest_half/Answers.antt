use Rattle.std.proofs.Common.{◌==◌, IsTrue, arith, rules}
use Rattle.dt_translate.specs.Outcomes.{half_at}
use Rattle.dt_translate.proofs.Steadiness.{no_half-down}
use Rattle.dt_translate.proofs.searches.newest_half.Goals as goal

pub down-preserved : goal.down-preserved
down-preserved c =
    let image = c.args.m.now.image in
    let writes = c.args.m.now.writes in
    let fails : ¬ (IsTrue (half_at image writes c.down.k c.args.addr == c.args.wanted)) = search rules in
    record {
      within = omega (arith, c.down.invariant.within, c.steady_from-from.ensures.within);
      tried = λ j inside above.
          no_half-down image writes c.steady_from-from.result c.down.k c.steady_words_stay.ensures.bytes c.args.addr c.args.wanted c.args.span c.down.invariant.tried
          c.steady_from-from.ensures.steady c.requires.even fails j inside (omega arith);
    }

pub returns-then-from-eq0-clause-none : goal.returns-then-from-eq0-clause-none
returns-then-from-eq0-clause-none c =
    let image = c.args.m.now.image in
    let writes = c.args.m.now.writes in
    let fails : ¬ (IsTrue (half_at image writes c.down.k c.args.addr == c.args.wanted)) = search rules in
    λ j inside.
    no_half-down image writes c.steady_from-from.result c.down.k c.steady_words_stay.ensures.bytes c.args.addr c.args.wanted c.args.span c.down.invariant.tried
    c.steady_from-from.ensures.steady c.requires.even fails j inside (omega arith)
