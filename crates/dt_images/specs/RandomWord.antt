use Rattle.std.specs.Prelude.{ℕ, ◌+◌, ◌-◌, ◌*◌, ◌/◌, ◌%◌, ◌^◌, ◌==◌, ◌||◌, nat_lt, if◌then◌else◌}
use Rattle.dt_images.specs.Formats.{addi, atomic, fence, ld, operation, sd}

-- The instruction that a draw, a number of 64 bits, gives in an image of random instructions (this
-- project's own). Register x30 has the address of the data.

-- the register that is written: x1 to x28
abbrev pub destination : ℕ → ℕ
destination draw = 1 + draw / 2 ^ 8 % 28

abbrev pub first_source : ℕ → ℕ
first_source draw = draw / 2 ^ 16 % 32

abbrev pub second_source : ℕ → ℕ
second_source draw = draw / 2 ^ 24 % 32

-- one of 64 double words
abbrev pub offset : ℕ → ℕ
offset draw = 8 * (draw / 2 ^ 32 % 64)

-- what is left of the draw for choices
abbrev pub rest : ℕ → ℕ
rest draw = draw / 2 ^ 40

-- The operations are ADD SUB SLL SLT SLTU XOR SRL SRA OR AND and then MUL MULH MULHSU MULHU DIV DIVU
-- REM REMU, from 0 on.

-- funct7 of an operation: 32 of SUB and SRA, 1 of those that multiply or divide
abbrev pub operation_funct7 : ℕ → ℕ
operation_funct7 place = if (place == 1) || (place == 7) then 32 else (if nat_lt place 10 then 0 else 1)

-- funct3 of an operation: ADD and SUB share one, SRL and SRA too
abbrev pub operation_funct3 : ℕ → ℕ
operation_funct3 place =
    if place == 0
    then 0
    else (if nat_lt place 7 then place - 1 else (if nat_lt place 10 then place - 2 else place - 10))

unfoldable pub arithmetic_word : ℕ → ℕ
arithmetic_word draw =
    let place = rest draw % 18 in
    operation (operation_funct7 place) (operation_funct3 place) (destination draw) (first_source draw) (second_source draw)

-- ADDI of a number from -2048 to 2047
unfoldable pub constant_word : ℕ → ℕ
constant_word draw = addi (destination draw) (first_source draw) ((rest draw % 4096 + 2048) % 4096)

unfoldable pub load_word : ℕ → ℕ
load_word draw = ld (destination draw) (offset draw) 30

unfoldable pub store_word : ℕ → ℕ
store_word draw = sd (second_source draw) (offset draw) 30

-- AMOADD.D
unfoldable pub add_word : ℕ → ℕ
add_word draw = atomic 0 0 3 (destination draw) (second_source draw) 30

-- LR.D or SC.D
unfoldable pub reservation_word : ℕ → ℕ
reservation_word draw =
    if rest draw % 2 == 0
    then atomic 2 0 3 (destination draw) 0 30
    else atomic 3 0 3 (destination draw) (second_source draw) 30

-- the word: of sixteen, six are arithmetic, two ADDI, three loads, two stores, one an AMOADD, one an LR
-- or SC, and one a fence of all reads and writes
unfoldable pub random_word : ℕ → ℕ
random_word draw =
    let choice = draw % 16 in
    if nat_lt choice 6
    then arithmetic_word draw
    else (if nat_lt choice 8
    then constant_word draw
    else (if nat_lt choice 11
    then load_word draw
    else (if nat_lt choice 13
    then store_word draw
    else (if choice == 13 then add_word draw else (if choice == 14 then reservation_word draw else fence 3 3)))))
