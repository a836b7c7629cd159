use Rattle.std.specs.Prelude.{ℕ, zero, suc, ◌*◌, ◌/◌, ◌%◌, ◌^◌, ◌==◌, bit_xor, if◌then◌else◌}
use Rattle.dt_random.specs.declared.draws.TheConstants.{SALT}

-- Draws by three shifts of 64 bits (the generator xorshift64 of G. Marsaglia, Xorshift RNGs, 2003,
-- with the shifts 13, 7 and 17). A state is a number of 64 bits, and a draw is the new state.

-- the state before the first draw: the seed mixed with a constant, and never 0, since 0 gives 0 for
-- ever (the mixing is this project's own)
abbrev pub first_state : ℕ → ℕ
first_state seed = let mixed = bit_xor seed SALT in if mixed == 0 then 1 else mixed

-- a state mixed with itself, shifted to the left by some places
unfoldable pub shifted_left : ℕ → ℕ → ℕ
shifted_left places state = bit_xor state (state * 2 ^ places % 2 ^ 64)

-- a state mixed with itself, shifted to the right by some places
unfoldable pub shifted_right : ℕ → ℕ → ℕ
shifted_right places state = bit_xor state (state / 2 ^ places)

-- the next draw, which is the next state
abbrev pub next_draw : ℕ → ℕ
next_draw state = shifted_left 17 (shifted_right 7 (shifted_left 13 state))

-- the draw with a number, counted from 1; number 0 is the state before the first
unfoldable pub draw_after : ℕ → ℕ → ℕ
draw_after seed zero = first_state seed
draw_after seed (suc n) = next_draw (draw_after seed n)
