use Rattle.std.specs.Prelude.{ℕ, ◌+◌, ◌-◌, ◌%◌, ◌^◌, ℤ, pos, ◌-ℤ◌, unsigned_abs, nat_lt, if◌then◌else◌}
use Rattle.std.specs.Int.{int_rem_euclid}

-- the integer that the word n of k bits stands for in two's complement: n, less 2^k where its highest bit is set (Volume I, section 2.1)
unfoldable pub signed_value : ℕ → ℕ → ℤ
signed_value k n = if nat_lt n (2 ^ (k - 1)) then pos n else (pos n -ℤ pos (2 ^ k))

-- the word of k bits of an integer: what is left of it modulo 2^k, as overflow is ignored (Volume I, section 2.4)
unfoldable pub word_of : ℕ → ℤ → ℕ
word_of k z = unsigned_abs (int_rem_euclid z (pos (2 ^ k)))

-- the sum of two words of k bits, modulo 2^k (Volume I, section 2.4)
abbrev pub sum_of : ℕ → ℕ → ℕ → ℕ
sum_of k x y = (x + y) % 2 ^ k
