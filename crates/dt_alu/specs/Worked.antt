use Rattle.std.specs.Prelude.{◌≡◌, refl, true, false}
use Rattle.dt_alu.specs.declared.operations.AluOp.TheVariants.{Sra, Mulhsu, Div, Divu, Rem, Remu}
use Rattle.dt_alu.specs.declared.operations.AmoOp.TheVariants.{Min, Max}
use Rattle.dt_alu.specs.declared.operations.Cond.TheVariants.{Lt, Ltu}
use Rattle.dt_alu.specs.Words.{signed_value, word_of}
use Rattle.dt_alu.specs.Extend.{extend_value}
use Rattle.dt_alu.specs.Alu.{operation_value, alu_value}
use Rattle.dt_alu.specs.Compare.{compare_value}
use Rattle.dt_alu.specs.Amo.{written_word, amo_value}

-- Values that the definitions compute, taken from the manual's tables and from outside.

pub least_by_minus_one : alu_value Div false 0x8000000000000000 0xffffffffffffffff ≡ 0x8000000000000000
unfolding alu_value operation_value signed_value word_of
least_by_minus_one = refl

pub least_word_by_minus_one : alu_value Div true 0x80000000 0xffffffff ≡ 0xffffffff80000000
unfolding alu_value operation_value signed_value word_of extend_value
least_word_by_minus_one = refl

pub quotient_by_zero : alu_value Divu false 7 0 ≡ 0xffffffffffffffff
unfolding alu_value operation_value
quotient_by_zero = refl

pub remainder_by_zero : alu_value Remu false 7 0 ≡ 7
unfolding alu_value operation_value
remainder_by_zero = refl

pub remainder_of_minus_seven_by_two : alu_value Rem false 0xfffffffffffffff9 2 ≡ 0xffffffffffffffff
unfolding alu_value operation_value signed_value word_of
remainder_of_minus_seven_by_two = refl

pub least_shifted_by_sixty_eight : alu_value Sra false 0x8000000000000000 68 ≡ 0xf800000000000000
unfolding alu_value operation_value signed_value word_of
least_shifted_by_sixty_eight = refl

pub minus_one_times_all_ones : alu_value Mulhsu false 0xffffffffffffffff 0xffffffffffffffff ≡ 0xffffffffffffffff
unfolding alu_value operation_value signed_value word_of
minus_one_times_all_ones = refl

pub minus_one_below_one : compare_value Lt 0xffffffffffffffff 1 ≡ true
unfolding compare_value signed_value
minus_one_below_one = refl

pub all_ones_not_below_one : compare_value Ltu 0xffffffffffffffff 1 ≡ false
unfolding compare_value
all_ones_not_below_one = refl

pub lesser_word : amo_value Min 4 0x1ffffffff 0xffffffff00000001 ≡ 0xffffffff
unfolding amo_value written_word signed_value
lesser_word = refl

pub greater_word : amo_value Max 4 0x1ffffffff 0xffffffff00000001 ≡ 1
unfolding amo_value written_word signed_value
greater_word = refl

pub negative_byte : extend_value 1 true 0x180 ≡ 0xffffffffffffff80
unfolding extend_value signed_value word_of
negative_byte = refl
