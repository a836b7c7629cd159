use Rattle.std.proofs.Common.{ℕ, ◌≡◌, drop, find, IsTrue}
use Rattle.dt_stores.specs.Draining.{is_barring}
use Rattle.dt_stores.specs.Indexed.{rises}
use Rattle.dt_stores.proofs.drains.barring.Given as goal

-- the stores that are left decide
abbrev pub invariant-loop-e : goal.invariant-loop-e
invariant-loop-e l = record {
  rest : find (is_barring l.line l.barrier) (drop l.e-index l.entries) ≡ find (is_barring l.line l.barrier) l.entries;
  rising : (low high : ℕ) × IsTrue (rises (λ h. h.barrier) low high (drop l.e-index l.entries));
}
