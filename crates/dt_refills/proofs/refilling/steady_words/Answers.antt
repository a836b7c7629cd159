use Rattle.std.proofs.Common.{◌≡◌, ◌+◌, ◌*◌, sym, subst, inl, inr, arith}
use Rattle.std.proofs.lemmas.Bool.{cases_lt}
use Rattle.dt_versions.proofs.Steady.{IsSteady-later}
use Rattle.dt_versions.specs.Words.{IsSteady}
use Rattle.dt_refills.proofs.refilling.steady_words.Goals as goal

pub loop-i-preserved : goal.loop-i-preserved
loop-i-preserved c =
    let writes = c.args.m.now.writes in
    record {
      within = omega (arith, c.max-from.ensures, c.steady_from.ensures.within, c.loop-i.invariant.within);
      steady = λ j to. elim (cases_lt j c.loop-i.i) [
        | inl before ↦
            IsSteady-later writes (c.args.line + 8 * j) c.loop-i.from c.max-from.result c.args.k (omega (arith, c.max-from.ensures)) (c.loop-i.invariant.steady j before)
        | inr last ↦
            let same : j ≡ c.loop-i.i = omega arith in
            subst (λ i. IsSteady writes (c.args.line + 8 * i) c.max-from.result c.args.k) (sym same)
            (IsSteady-later writes (c.args.line + 8 * c.loop-i.i) c.steady_from.result c.max-from.result c.args.k (omega (arith, c.max-from.ensures)) c.steady_from.ensures.steady)
      ];
    }
