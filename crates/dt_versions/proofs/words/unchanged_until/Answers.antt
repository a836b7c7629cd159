use Rattle.std.proofs.Common.{ℕ, ◌≡◌, ◌+◌, ◌-◌, ◌<◌, ◌≤◌, true, false, length, get_or, inl, inr, sym, ap, ◌∙◌, arith}
use Rattle.std.proofs.lemmas.Bool.{both_ways, cases_lt, false_from_ne_true}
use Rattle.std.proofs.lemmas.List.{get_or_default}
use Rattle.dt_versions.specs.Chains.{is_unchanged}
use Rattle.dt_versions.proofs.Lasts.{IsPartBetween, IsPartitionedBy-part, part-between}
use Rattle.dt_versions.proofs.words.unchanged_until.Goals as goal
use Rattle.dt_versions.proofs.words.unchanged_until.Goals.{then-ahead-test+else-is_unchanged, else-ahead-test}

-- the word has changed at all places after the part that is searched
changed : (c : goal.After-count_unchanged) → (i d : ℕ) → c.min-high.result ≤ i → i < length c.args.chain.now
    → is_unchanged c.args.rows.now c.args.start c.args.limit (get_or c.args.chain.now i d) ≡ false
changed c i d from to = elim c.ahead-test.branch [
  | then-ahead-test+else-is_unchanged w ↦
      let test = is_unchanged c.args.rows.now c.args.start c.args.limit in
      let place = c.ahead.low + c.ahead.step - 1 in
      let inside : place < length c.args.chain.now = omega arith in
      let here : test (get_or c.args.chain.now place d) ≡ false =
      ap test (get_or_default c.args.chain.now place d 0 inside) ∙ sym w.is_unchanged.ensures ∙ w.if-is_unchanged.false in
      false_from_ne_true _ (λ passes. both_ways _ here (c.requires.parted place i d (omega arith) to passes))
  | else-ahead-test w ↦ absurd (omega arith)
]

pub count_unchanged-requires-clause-parted : goal.count_unchanged-requires-clause-parted
count_unchanged-requires-clause-parted c =
    IsPartitionedBy-part (is_unchanged c.args.rows.now c.args.start c.args.limit) c.args.chain.now 0 c.ahead.low c.min-high.result (omega arith) (omega arith) c.requires.parted

searched : (c : goal.After-count_unchanged) → IsPartBetween (λ m. is_unchanged c.args.rows.now c.args.start c.args.limit m ≡ true)
    (λ m. is_unchanged c.args.rows.now c.args.start c.args.limit m ≡ false) c.args.chain.now c.ahead.low c.min-high.result (c.ahead.low + c.count_unchanged.result)
searched c =
    let test = is_unchanged c.args.rows.now c.args.start c.args.limit in
    part-between test c.args.chain.now 0 (λ m. test m ≡ true) (λ m. test m ≡ false) c.ahead.low c.min-high.result c.count_unchanged.result (omega arith) (omega arith)
    c.count_unchanged.ensures.within c.count_unchanged.ensures.parts

pub returns-clause-passed : goal.returns-clause-passed
returns-clause-passed c = λ i d from to. elim (cases_lt i c.ahead.low) [
  | inl early ↦ c.ahead.invariant.below i d from early
  | inr here ↦ (searched c).first i d here to
]

pub returns-clause-end : goal.returns-clause-end
returns-clause-end c = λ i d from to. elim (cases_lt i c.min-high.result) [
  | inl here ↦ (searched c).last i d from here
  | inr late ↦ changed c i d late to
]
