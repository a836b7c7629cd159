use Rattle.std.proofs.Common.{◌≡◌, ◌==◌, ◌<◌, ◌≤◌, ℕ, if◌then◌else◌, length, get_or}
use Rattle.std.specs.Int.{bit_at}
use Rattle.dt_versions.specs.Chains.{number_at}
use Rattle.dt_versions.proofs.chains.row_after.Given as goal

abbrev pub invariant-loop-i : goal.invariant-loop-i
invariant-loop-i l = record {
  size : length l.row ≡ 64;
  done : (j : ℕ) → j < l.i → get_or l.row j 0 ≡ (if bit_at l.mask j == 1 then l.number else number_at l.rows l.newest j);
  left : (j : ℕ) → l.i ≤ j → j < 64 → get_or l.row j 0 ≡ number_at l.rows l.newest j;
}
