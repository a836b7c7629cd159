-- Bytes that a source has left or that a sink was given: Some of them where the object tells them,
-- as one in memory does, and None where it does not, as a file or a terminal. Whether an object
-- tells never changes (this project's own).
use Rattle.std.specs.Prelude.{◌≡◌, List, ◌++◌, ℕ, Option, length, option_map}

-- these bytes were taken from the front of what was left
abbrev pub TakesFrom : Option (List ℕ) → List ℕ → Option (List ℕ) → Type 0
TakesFrom before taken after = before ≡ option_map (λ rest. taken ++ rest) after

-- these bytes were put at the end of what was written
abbrev pub Appends : Option (List ℕ) → List ℕ → Option (List ℕ) → Type 0
Appends before piece after = after ≡ option_map (λ bytes. bytes ++ piece) before

-- this many bytes were taken from the front of what was left
abbrev pub TakesSome : Option (List ℕ) → Option (List ℕ) → ℕ → Type 0
TakesSome before after n = (taken : List ℕ) × (length taken ≡ n) × TakesFrom before taken after
