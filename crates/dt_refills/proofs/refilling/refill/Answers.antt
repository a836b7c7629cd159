use Rattle.std.proofs.Common.{◌≡◌, ◌<◌, ◌≤◌, ℕ, List, false, sym, ap, ◌∙◌, inl, inr, arith}
use Rattle.std.specs.Str.{bytes_eq}
use Rattle.std.proofs.lemmas.Bool.{cases_lt}
use Rattle.dt_refills.specs.Refilling.{line_at}
use Rattle.dt_refills.proofs.Lines.{found_in, found_nowhere}
use Rattle.dt_refills.proofs.refilling.refill.Goals as goal

-- what is known of later moments, and of a stretch in which the line stays
tried_down : (line : ℕ → List ℕ) (bytes : List ℕ) (first last from k : ℕ) → ((j : ℕ) → first ≤ j → j ≤ last → k < j → bytes_eq (line j) bytes ≡ false)
    → ((j : ℕ) → from ≤ j → j ≤ k → line k ≡ line j) → bytes_eq (line k) bytes ≡ false
    → (j : ℕ) → first ≤ j → j ≤ last → from ≤ j → bytes_eq (line j) bytes ≡ false
tried_down line bytes first last from k later steady here j low high after = elim (cases_lt k j) [
  | inl more ↦ later j low high more
  | inr within ↦ ap (λ (due : List ℕ). bytes_eq due bytes) (sym (steady j after within)) ∙ here
]

pub returns-then-is_ok : goal.returns-then-is_ok
returns-then-is_ok c =
    found_in c.args.m.now.image c.args.m.now.writes c.args.seen c.args.line c.args.bytes.now c.down.k c.down-test.true c.down.invariant.within
    (sym c.had.ensures.same ∙ sym c.is_ok.ensures.value ∙ c.if-is_ok.true)

pub down-preserved : goal.down-preserved
down-preserved c = record {
  within = omega (arith, c.down.invariant.within, c.steady_from-from.ensures.within);
  tried = λ j low high above.
      tried_down (λ i. line_at c.args.m.now.image c.args.m.now.writes i c.args.line) c.args.bytes.now c.args.seen.first c.args.seen.last c.steady_from-from.result c.down.k
      c.down.invariant.tried c.steady_from-from.ensures.steady (sym c.had.ensures.same ∙ sym c.is_ok.ensures.value ∙ c.if-is_ok.false) j low high (omega arith);
}

pub returns-then-from-eq0 : goal.returns-then-from-eq0
returns-then-from-eq0 c =
    found_nowhere c.args.m.now.image c.args.m.now.writes c.args.seen c.args.line c.args.bytes.now c.had-then-from-eq0.result
    (λ j low high.
    tried_down (λ i. line_at c.args.m.now.image c.args.m.now.writes i c.args.line) c.args.bytes.now c.args.seen.first c.args.seen.last c.steady_from-from.result c.down.k
    c.down.invariant.tried c.steady_from-from.ensures.steady (sym c.had.ensures.same ∙ sym c.is_ok.ensures.value ∙ c.if-is_ok.false) j low high (omega arith)) c.had-then-from-eq0.ensures.value

pub returns : goal.returns
returns c =
    found_nowhere c.args.m.now.image c.args.m.now.writes c.args.seen c.args.line c.args.bytes.now c.had-2.result
    (λ j low high. c.down.invariant.tried j low high (omega arith)) c.had-2.ensures.value
