use Rattle.std.specs.Prelude.{ℕ, ◌≤◌, ◌-◌, ◌↔◌, List, length, not}
use Rattle.std.specs.List.{prefix_len, suffix_len}
use Rattle.dt_record.specs.declared.keys.Key.{Key}
use Rattle.dt_record.specs.declared.writes.Write.{Write}
use Rattle.dt_record.specs.Visible.{must_see, cannot_see, IsVisible}

-- The visible moments lie between two ends (this project's own).

-- a moment is visible, and no earlier one is
pub record IsLeastVisible (writes : List Write) (key : Key) (at k : ℕ) : Type 0 where
  pub visible : IsVisible writes key at k
  pub least : (j : ℕ) → IsVisible writes key at j → k ≤ j

-- a moment is visible, and no later one is
pub record IsGreatestVisible (writes : List Write) (key : Key) (at k : ℕ) : Type 0 where
  pub visible : IsVisible writes key at k
  pub greatest : (j : ℕ) → IsVisible writes key at j → j ≤ k

-- How these two are found; a law says that they are so found wherever the writes stand in order.

-- the least visible moment: all writes but the last ones that need not be seen
abbrev pub first_visible : List Write → Key → ℕ → ℕ
first_visible writes key at = length writes - suffix_len (λ w. not (must_see key at w)) writes

-- the greatest visible moment: the first writes that may be seen
abbrev pub last_visible : List Write → Key → ℕ → ℕ
last_visible writes key at = prefix_len (λ w. not (cannot_see key at w)) writes

-- the visible moments are those from one to another, and there is one
pub record AreVisible (writes : List Write) (key : Key) (at first last : ℕ) : Type 0 where
  pub exact : (k : ℕ) → IsVisible writes key at k ↔ ((first ≤ k) × (k ≤ last))
  pub never_empty : first ≤ last
