use Rattle.std.specs.Prelude.{◌≡◌, refl}
use Rattle.dt_random.specs.Draws.{draw_after, first_state, shifted_left, shifted_right}

-- Draws that the definition computes.

-- the seed that is mixed to 0 begins with 1
pub mixed_to_zero : first_state 0x9e37_79b9_7f4a_7c15 ≡ 1
mixed_to_zero = refl

-- the first draw from 1 is 1082269761, as of other programs of this generator
pub first_from_one : draw_after 0x9e37_79b9_7f4a_7c15 1 ≡ 1_082_269_761
unfolding draw_after shifted_left shifted_right
first_from_one = refl

pub second_from_one : draw_after 0x9e37_79b9_7f4a_7c15 2 ≡ 0x1000_4106_0c01_1441
unfolding draw_after shifted_left shifted_right
second_from_one = refl
