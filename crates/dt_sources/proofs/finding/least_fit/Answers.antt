use Rattle.std.proofs.Common.{◌-◌, inl, inr, sym, arith}
use Rattle.std.proofs.lemmas.Bool.{cases_lt}
use Rattle.dt_sources.proofs.Steady.{none-while_steady}
use Rattle.dt_sources.proofs.finding.least_fit.Goals as goal

pub loop-k-preserved : goal.loop-k-preserved
loop-k-preserved c = record {
  begun = omega (arith, c.loop-k.invariant.begun, c.in-Some.ensures.above);
  none = λ j from below. elim (cases_lt j c.loop-k.k) [
    | inl early ↦ c.loop-k.invariant.none j from early
    | inr late ↦
        none-while_steady c.steady_words_stay.ensures.bytes c.steady_words_stay.ensures.sources c.args.m.now c.args.addr c.args.raw c.loop-k.k (c.in-Some.next - 1) c.args.bytes.now
        c.requires.in_word c.in-Some.ensures.steady (sym c.if-is_fit.ensures) j late (omega (arith, below))
  ];
}

pub returns-in-None : goal.returns-in-None
returns-in-None c = record {
  least = λ j from until. elim (cases_lt j c.loop-k.k) [
    | inl early ↦ c.loop-k.invariant.none j from early
    | inr late ↦
        none-while_steady c.steady_words_stay.ensures.bytes c.steady_words_stay.ensures.sources c.args.m.now c.args.addr c.args.raw c.loop-k.k _ c.args.bytes.now
        c.requires.in_word c.in-None.ensures.none (sym c.if-is_fit.ensures) j late (omega (arith, until, c.requires.within))
  ];
}
