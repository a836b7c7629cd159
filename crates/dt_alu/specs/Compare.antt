use Rattle.std.specs.Prelude.{ℕ, Bool, not, ◌==◌, nat_lt, nat_le, int_lt, int_le}
use Rattle.dt_alu.specs.declared.operations.Cond.{Cond}
use Rattle.dt_alu.specs.declared.operations.Cond.TheVariants.{Eq, Ne, Lt, Ge, Ltu, Geu}
use Rattle.dt_alu.specs.Words.{signed_value}

-- whether a branch is taken on the 64-bit words a and b (Volume I, section 2.5)
unfoldable pub compare_value : Cond → ℕ → ℕ → Bool
compare_value Eq a b = a == b
compare_value Ne a b = not (a == b)
compare_value Lt a b = int_lt (signed_value 64 a) (signed_value 64 b)
compare_value Ge a b = int_le (signed_value 64 b) (signed_value 64 a)
compare_value Ltu a b = nat_lt a b
compare_value Geu a b = nat_le b a
