use Rattle.std.proofs.Common.{ℕ, ◌-◌, ◌<◌, ◌≤◌, get_or, length, leb, arith}
use Rattle.std.proofs.lemmas.List.{get_or_default}
use Rattle.dt_versions.proofs.Lasts.{point-of_part}
use Rattle.dt_versions.proofs.chains.until_len.Goals as goal
use Rattle.dt_versions.proofs.chains.until_len.Goals.{then-back-test+else-k-chain, else-back-test}

-- what stands before the part that is searched is not above k
below : (c : goal.After-count_until) → (i d : ℕ) → i < c.saturating_sub-low.result → get_or c.args.chain.now i d ≤ c.args.k
below c i d to = elim c.back-test.branch [
  | then-back-test+else-k-chain w ↦
      let inside : c.back.high - c.back.step < length c.args.chain.now = omega arith in
      let rises = c.requires i (c.back.high - c.back.step) d (omega arith) inside in
      omega (arith, rises, get_or_default c.args.chain.now (c.back.high - c.back.step) d 0 inside)
  | else-back-test w ↦ absurd (omega arith)
]

pub returns-clause-parts : goal.returns-clause-parts
returns-clause-parts c =
    point-of_part (λ m. leb m c.args.k) c.args.chain.now 0 (λ m. m ≤ c.args.k) (λ m. c.args.k < m) c.saturating_sub-low.result c.back.high c.count_until.result (omega arith) c.back.invariant.within (below c) c.back.invariant.above
    c.count_until.ensures.within c.count_until.ensures.parts
