use Rattle.std.specs.Prelude.{ℕ, ◌≡◌, ◌-◌, Option, option_map, List, ◌++◌, take, drop}
use Rattle.dt_source.specs.Known.{TakesFrom}

-- Bytes that are held, and those that the source has left, where it tells them (this project's own).

-- the part of a list between two places
abbrev pub part : ℕ → ℕ → List ℕ → List ℕ
part start end bytes = take (end - start) (drop start bytes)

-- the bytes that are held and those that the source has left
abbrev pub whole : List ℕ → Option (List ℕ) → Option (List ℕ)
whole held left = option_map (λ rest. held ++ rest) left

-- what was taken from the source in between is held behind what was held
abbrev pub ReadsOn : List ℕ → Option (List ℕ) → List ℕ → Option (List ℕ) → Type 0
ReadsOn held before grown after = (more : List ℕ) × (grown ≡ held ++ more) × TakesFrom before more after
