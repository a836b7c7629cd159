use Rattle.std.proofs.Common.{ℕ, ◌≡◌, ◌-◌, ◌<◌, ◌≤◌, ◌==◌, List, None, length, get_or, leb, ap, ◌∙◌, arith}
use Rattle.std.specs.Prelude.{slice_get}
use Rattle.std.specs.List.Sorted.{IsPartitionPoint}
use Rattle.std.specs.Option.{unwrap_or}
use Rattle.std.proofs.lemmas.Bool.{cond-false, le-leb, lt-leb, ne_eqb}
use Rattle.std.proofs.lemmas.Option.{unwrap_or-slice_get}
use Rattle.dt_versions.specs.Chains.{newest_until, numbered}
use Rattle.dt_versions.proofs.Lasts.{last_found}

-- The last number of a chain that is not above k.

module _ (chain : List ℕ) (k n : ℕ) (within : n ≤ length chain) (parts : IsPartitionPoint (λ m. m ≤ k) (λ m. k < m) chain n) where
  newest_numbered : newest_until chain k ≡ unwrap_or (numbered chain n) 0
  newest_numbered =
      ap (λ o. unwrap_or o 0) (last_found (λ m. leb m k) chain 0 n within
      (λ some. le-leb _ k (parts.0 (n - 1) 0 (omega arith) (omega arith))) (λ i from to. lt-leb _ k (parts.1 i 0 from to)))

  pub newest_until-none : n ≡ 0 → newest_until chain k ≡ 0
  newest_until-none none = newest_numbered ∙ ap (λ i. unwrap_or (numbered chain i) 0) none

  pub newest_until-some : 0 < n → newest_until chain k ≡ get_or chain (n - 1) 0
  newest_until-some some =
      newest_numbered ∙ ap (λ o. unwrap_or o 0) (cond-false (n == 0) None (slice_get chain (n - 1)) (ne_eqb n 0 (λ e. omega arith)))
      ∙ unwrap_or-slice_get chain (n - 1) 0
