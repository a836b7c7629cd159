use Rattle.std.specs.Prelude.{ℕ, List, [], ◌∷◌}
use Rattle.std.specs.Ordering.{nat_cmp}
use Rattle.std.specs.Map.{set_value}
use Rattle.std.specs.BTreeMap.{is_at}

-- What changes by steps that can be undone (this project's own).

-- what stood before some steps, which are in the order in which they came, where it is known what stood before one
abbrev pub earlier_state : {S T : Type 0} → (S → T → S) → S → List T → S
earlier_state undo now [] = now
earlier_state undo now (s ∷ ss) = undo (earlier_state undo now ss) s

-- what was seen before each of some steps
abbrev pub earlier_views : {S T V : Type 0} → (S → T → S) → (S → V) → S → List T → List V
earlier_views undo view now [] = []
earlier_views undo view now (s ∷ ss) = view (earlier_state undo now (s ∷ ss)) ∷ earlier_views undo view now ss

-- slots by their numbers, where a step has the number of a slot and what was in it: that is put back
abbrev pub put_back : {T X : Type 0} → (T → ℕ) → (T → X) → List (ℕ × X) → T → List (ℕ × X)
put_back number content slots step = set_value (is_at (nat_cmp (number step))) slots (content step)
