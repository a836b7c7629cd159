use Rattle.std.proofs.Common.{◌≡◌, get_or, ap, inl, inr, arith}
use Rattle.std.proofs.lemmas.Bool.{cases_lt}
use Rattle.dt_versions.proofs.words.greatest.Goals as goal

pub loop-number-preserved : goal.loop-number-preserved
loop-number-preserved c =
    let numbers = c.args.numbers.now in
    let here = c.loop-number.number-index in
    record {
      bound = λ i to. elim (cases_lt i here) [
        | inl before ↦ omega (arith, c.loop-number.invariant.bound i before, c.max-most.ensures)
        | inr last ↦ let same : i ≡ here = omega arith in omega (arith, ap (λ j. get_or numbers j 0) same, c.max-most.ensures)
      ];
      among = λ some. elim (cases_lt c.loop-number.most (get_or numbers here 0)) [
        | inl more ↦ (here, omega arith, omega (arith, c.max-most.ensures))
        | inr less ↦
            let old = c.loop-number.invariant.among (omega (arith, c.max-most.ensures)) in
            (old.0, omega (arith, old.1), omega (arith, old.2, c.max-most.ensures))
      ];
    }
