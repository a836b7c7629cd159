use Rattle.std.specs.Prelude.{ℕ, ◌≡◌}
use Rattle.std.specs.Int.{bit_at}

-- each bit of the number is a bit of the mask
abbrev pub HasOnlyBitsOf : ℕ → ℕ → Type 0
HasOnlyBitsOf mask found = (place : ℕ) → bit_at found place ≡ 1 → bit_at mask place ≡ 1
