-- Laws of cuts and of what is kept at them. All of it is this project's own.
use Rattle.std.specs.Prelude.{◌≡◌, ℕ, ◌≤◌, ◌↔◌, false, Option, IsTrue}
use Rattle.dt_snapshot.specs.Cuts.{is_cut, newer_cut, has_reached, reaches_new}

-- the newer cut is the greatest that is not above a cycle
pub record IsGreatestCut (interval stamp cut : ℕ) : Type 0 where
  pub is : IsTrue (is_cut interval cut)
  pub within : cut ≤ stamp
  pub greatest : (other : ℕ) → IsTrue (is_cut interval other) → other ≤ stamp → other ≤ cut

abbrev pub NewerCutIsGreatest : Type 0
NewerCutIsGreatest = (interval stamp : ℕ) → 1 ≤ interval → IsGreatestCut interval stamp (newer_cut interval stamp)

-- a cut between a cycle that was reached earlier, where there is one, and this one
pub record IsBetween (interval : ℕ) (last : Option ℕ) (stamp cut : ℕ) : Type 0 where
  pub is : IsTrue (is_cut interval cut)
  pub new : has_reached last cut ≡ false
  pub within : cut ≤ stamp

-- a cycle reaches a new cut exactly where there is one up to it that the earlier cycle has not reached
abbrev pub NewCutsAreBetween : Type 0
NewCutsAreBetween = (interval : ℕ) (last : Option ℕ) (stamp : ℕ) → 1 ≤ interval
    → IsTrue (reaches_new interval last stamp) ↔ ((cut : ℕ) × IsBetween interval last stamp cut)
