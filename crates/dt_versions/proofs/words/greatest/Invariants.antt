use Rattle.std.proofs.Common.{ℕ, ◌≡◌, ◌<◌, ◌≤◌, get_or}
use Rattle.dt_versions.proofs.words.greatest.Given as goal

abbrev pub invariant-loop-number : goal.invariant-loop-number
invariant-loop-number l = record {
  bound : (i : ℕ) → i < l.number-index → get_or l.numbers i 0 ≤ l.most;
  among : 0 < l.most → (i : ℕ) × (i < l.number-index) × (get_or l.numbers i 0 ≡ l.most);
}
