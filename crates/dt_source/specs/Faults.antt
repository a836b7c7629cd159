use Rattle.std.specs.Prelude.{◌≡◌, ℕ, ◌+◌, ◌<◌, ◌⊎◌, min}

-- A count of faults rose in a call: it is greater afterwards, or it stands at the last value of a
-- counter of 64 bits, from where it cannot rise (this project's own).
abbrev pub Rose : ℕ → ℕ → Type 0
Rose before after = (before < after) ⊎ (after ≡ 18446744073709551615)

-- a counter of 64 bits after one more; at its last value it stays
abbrev pub counted : ℕ → ℕ
counted n = min (n + 1) 18446744073709551615
