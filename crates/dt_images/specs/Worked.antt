use Rattle.std.specs.Prelude.{ℕ, ◌≡◌, List, ◌∷◌, [], map, refl}
use Rattle.dt_images.specs.RandomWord.{add_word, arithmetic_word, constant_word, load_word, operation_funct3, operation_funct7, random_word, reservation_word, store_word}

-- Words that the definition computes from draws.

abbrev places : List ℕ
places = 0 ∷ 1 ∷ 2 ∷ 3 ∷ 4 ∷ 5 ∷ 6 ∷ 7 ∷ 8 ∷ 9 ∷ 10 ∷ 11 ∷ 12 ∷ 13 ∷ 14 ∷ 15 ∷ 16 ∷ 17 ∷ []

-- ADD SUB SLL SLT SLTU XOR SRL SRA OR AND MUL MULH MULHSU MULHU DIV DIVU REM REMU, as in the manual's table
pub all_funct7 : map operation_funct7 places
    ≡ 0 ∷ 32 ∷ 0 ∷ 0 ∷ 0 ∷ 0 ∷ 0 ∷ 32 ∷ 0 ∷ 0 ∷ 1 ∷ 1 ∷ 1 ∷ 1 ∷ 1 ∷ 1 ∷ 1 ∷ 1 ∷ []
all_funct7 = refl

pub all_funct3 : map operation_funct3 places
    ≡ 0 ∷ 0 ∷ 1 ∷ 2 ∷ 3 ∷ 4 ∷ 5 ∷ 5 ∷ 6 ∷ 7 ∷ 0 ∷ 1 ∷ 2 ∷ 3 ∷ 4 ∷ 5 ∷ 6 ∷ 7 ∷ []
all_funct3 = refl

-- mulhsu x18,x5,x7, the twelfth operation from 0
pub arithmetic : random_word 0x0000_0c00_0705_0500 ≡ 0x0272_a933
unfolding random_word arithmetic_word
arithmetic = refl

-- addi x26,x5,-2048
pub constant : random_word 0x0000_0000_0705_0506 ≡ 0x8002_8d13
unfolding random_word constant_word
constant = refl

-- ld x26,504(x30)
pub load : random_word 0x0000_003f_0705_0508 ≡ 0x1f8f_3d03
unfolding random_word load_word
load = refl

-- sd x7,504(x30)
pub store : random_word 0x0000_003f_0705_050b ≡ 0x1e7f_3c23
unfolding random_word store_word
store = refl

-- amoadd.d x26,x7,(x30)
pub add : random_word 0x0000_0000_0705_050d ≡ 0x007f_3d2f
unfolding random_word add_word
add = refl

-- lr.d x26,(x30)
pub reserved : random_word 0x0000_0000_0705_050e ≡ 0x100f_3d2f
unfolding random_word reservation_word
reserved = refl

-- sc.d x2,x7,(x30)
pub conditional : random_word 0x0000_0100_0705_050e ≡ 0x187f_312f
unfolding random_word reservation_word
conditional = refl

pub ordered : random_word 0x0000_0000_0705_050f ≡ 0x0330_000f
unfolding random_word
ordered = refl
