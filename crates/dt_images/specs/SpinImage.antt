use Rattle.std.specs.Prelude.{ℕ, List, [], ◌∷◌, ◌++◌}
use Rattle.std.specs.List.{flat_map}
use Rattle.dt_record.specs.Spelling.{word}
use Rattle.dt_images.specs.Formats.{addi, atomic, auipc, below_zero, bne, csrrs, csrrw, fence, jal, ld, lui, mret, operation, sd, sfence_vma, slli, srli, sw}
use Rattle.dt_images.specs.Words.{filled_to}

-- The image of a lock that harts share (this project's own). The lock stands at 80003000, the counter
-- at 80003040.

-- mtvec, mie with the timer, satp with the table at 80002000, MPP of S, mepc; x12 is the lock's address
abbrev pub setup : List ℕ
setup =
    auipc 5 0 ∷ addi 6 5 256 ∷ csrrw 0 0x305 6 ∷ addi 7 0 128 ∷ csrrw 0 0x304 7 ∷ addi 8 0 1 ∷ slli 8 8 63 ∷ srli 9 5 12
    ∷ addi 9 9 2 ∷ operation 0 6 8 8 9 ∷ csrrw 0 0x180 8 ∷ sfence_vma 0 0 ∷ addi 10 0 1 ∷ slli 10 10 11 ∷ csrrs 0 0x300 10
    ∷ addi 11 5 128 ∷ csrrw 0 0x341 11 ∷ lui 12 3 ∷ operation 0 0 12 12 5 ∷ addi 13 0 1 ∷ mret ∷ []

-- amoswap.w.aq until the lock was free; the counter; fence rw,w; the lock is given back
abbrev pub counting : List ℕ
counting =
    atomic 1 2 2 14 13 12 ∷ bne 14 0 (below_zero 13 4) ∷ ld 15 64 12 ∷ addi 15 15 1 ∷ sd 15 64 12 ∷ fence 3 1 ∷ sw 0 0 12
    ∷ jal 0 (below_zero 21 28) ∷ []

-- mcycle is read at a timer interrupt
abbrev pub handler : List ℕ
handler = csrrs 16 0xb00 0 ∷ mret ∷ []

-- the table's entry for 80000000: a gigapage that S reads, writes and executes
abbrev pub entry : ℕ
entry = 0x2000_00cf

-- 12,288 bytes: each part at its offset, and zeros between
abbrev pub spin_bytes : List ℕ
spin_bytes =
    let first = filled_to 0x80 (flat_map word setup) in
    let second = filled_to 0x100 (first ++ flat_map word counting) in
    let third = filled_to 0x2010 (second ++ flat_map word handler) in
    filled_to 0x3000 (third ++ word entry)
