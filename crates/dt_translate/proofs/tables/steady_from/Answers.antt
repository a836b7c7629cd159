use Rattle.std.proofs.Common.{◌≡◌, ◌<◌, get_or, length, ap, ◌∙◌, sym, subst, inl, inr, arith}
use Rattle.std.proofs.lemmas.Bool.{cases_lt}
use Rattle.std.proofs.lemmas.List.{get_or_default}
use Rattle.dt_versions.proofs.Steady.{IsSteady-later}
use Rattle.dt_versions.specs.Words.{IsSteady}
use Rattle.dt_translate.proofs.tables.steady_from.Goals as goal

pub loop-addr-preserved : goal.loop-addr-preserved
loop-addr-preserved c =
    let writes = c.args.moments.now.writes in
    let here = c.loop-addr.addr-index in
    record {
      within = omega (arith, c.max-from.ensures, c.steady_from.ensures.within, c.loop-addr.invariant.within);
      steady = λ i d to. elim (cases_lt i here) [
        | inl before ↦ IsSteady-later writes (get_or c.args.addresses.now i d) c.loop-addr.from c.max-from.result c.args.k (omega (arith, c.max-from.ensures)) (c.loop-addr.invariant.steady i d before)
        | inr last ↦
            let inside : here < length c.args.addresses.now = c.loop-addr-test.true in
            let same : i ≡ here = omega arith in
            let address = ap (λ m. get_or c.args.addresses.now m d) same ∙ get_or_default c.args.addresses.now here d 0 inside in
            subst (λ x. IsSteady writes x c.max-from.result c.args.k) (sym address)
            (IsSteady-later writes (get_or c.args.addresses.now here 0) c.steady_from.result c.max-from.result c.args.k (omega (arith, c.max-from.ensures)) c.steady_from.ensures.steady)
      ];
    }
