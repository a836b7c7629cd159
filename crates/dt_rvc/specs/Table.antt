-- The table of the 16-bit forms of RV64 without floats (The RISC-V Instruction Set Manual, Volume I, section 16.8). The
-- first row that a pattern fits says what it stands for.
use Rattle.std.specs.Prelude.{ℕ, List, [], ◌∷◌, ◌++◌, Option}
use Rattle.dt_rvc.specs.Forms.{Reserved, CAddi4spn, CLw, CLd, CSw, CSd, CAddi, CAddiw, CLi, CAddi16sp, CLui, CSrli, CSrai, CAndi, CSub, CXor, COr, CAnd, CSubw, CAddw, CJ, CBeqz, CBnez, CSlli, CLwsp, CLdsp, CJr, CMv, CEbreak, CJalr, CAdd, CSwsp, CSdsp}
use Rattle.dt_rvc.specs.Rows.{Row, expansion_in, ◌⇒◌, quadrant, funct3, bits, rd, rs2}

-- quadrant 00
abbrev pub quadrant_0_rows : List Row
quadrant_0_rows =
    (quadrant 0b00 ∷ funct3 0b000 ∷ bits 12 5 0 ∷ [] ⇒ Reserved)
    ∷ (quadrant 0b00 ∷ funct3 0b000 ∷ [] ⇒ CAddi4spn)
    ∷ (quadrant 0b00 ∷ funct3 0b010 ∷ [] ⇒ CLw)
    ∷ (quadrant 0b00 ∷ funct3 0b011 ∷ [] ⇒ CLd)
    ∷ (quadrant 0b00 ∷ funct3 0b110 ∷ [] ⇒ CSw)
    ∷ (quadrant 0b00 ∷ funct3 0b111 ∷ [] ⇒ CSd)
    ∷ []

-- quadrant 01, funct3 100
abbrev pub computing_rows : List Row
computing_rows =
    (quadrant 0b01 ∷ funct3 0b100 ∷ bits 11 10 0b00 ∷ [] ⇒ CSrli)
    ∷ (quadrant 0b01 ∷ funct3 0b100 ∷ bits 11 10 0b01 ∷ [] ⇒ CSrai)
    ∷ (quadrant 0b01 ∷ funct3 0b100 ∷ bits 11 10 0b10 ∷ [] ⇒ CAndi)
    ∷ (quadrant 0b01 ∷ funct3 0b100 ∷ bits 11 10 0b11 ∷ bits 12 12 0 ∷ bits 6 5 0b00 ∷ [] ⇒ CSub)
    ∷ (quadrant 0b01 ∷ funct3 0b100 ∷ bits 11 10 0b11 ∷ bits 12 12 0 ∷ bits 6 5 0b01 ∷ [] ⇒ CXor)
    ∷ (quadrant 0b01 ∷ funct3 0b100 ∷ bits 11 10 0b11 ∷ bits 12 12 0 ∷ bits 6 5 0b10 ∷ [] ⇒ COr)
    ∷ (quadrant 0b01 ∷ funct3 0b100 ∷ bits 11 10 0b11 ∷ bits 12 12 0 ∷ bits 6 5 0b11 ∷ [] ⇒ CAnd)
    ∷ (quadrant 0b01 ∷ funct3 0b100 ∷ bits 11 10 0b11 ∷ bits 12 12 1 ∷ bits 6 5 0b00 ∷ [] ⇒ CSubw)
    ∷ (quadrant 0b01 ∷ funct3 0b100 ∷ bits 11 10 0b11 ∷ bits 12 12 1 ∷ bits 6 5 0b01 ∷ [] ⇒ CAddw)
    ∷ []

-- quadrant 01, funct3 011: nothing with the immediate 0
abbrev pub upper_rows : List Row
upper_rows =
    (quadrant 0b01 ∷ funct3 0b011 ∷ bits 12 12 0 ∷ bits 6 2 0 ∷ [] ⇒ Reserved)
    ∷ (quadrant 0b01 ∷ funct3 0b011 ∷ rd 2 ∷ [] ⇒ CAddi16sp)
    ∷ (quadrant 0b01 ∷ funct3 0b011 ∷ [] ⇒ CLui)
    ∷ []

-- quadrant 01
abbrev pub quadrant_1_rows : List Row
quadrant_1_rows =
    (quadrant 0b01 ∷ funct3 0b000 ∷ [] ⇒ CAddi)
    ∷ (quadrant 0b01 ∷ funct3 0b001 ∷ rd 0 ∷ [] ⇒ Reserved)
    ∷ (quadrant 0b01 ∷ funct3 0b001 ∷ [] ⇒ CAddiw)
    ∷ (quadrant 0b01 ∷ funct3 0b010 ∷ [] ⇒ CLi)
    ∷ (quadrant 0b01 ∷ funct3 0b101 ∷ [] ⇒ CJ)
    ∷ (quadrant 0b01 ∷ funct3 0b110 ∷ [] ⇒ CBeqz)
    ∷ (quadrant 0b01 ∷ funct3 0b111 ∷ [] ⇒ CBnez)
    ∷ (upper_rows ++ computing_rows)

-- quadrant 10, funct3 100
abbrev pub register_rows : List Row
register_rows =
    (quadrant 0b10 ∷ funct3 0b100 ∷ bits 12 12 0 ∷ rd 0 ∷ rs2 0 ∷ [] ⇒ Reserved)
    ∷ (quadrant 0b10 ∷ funct3 0b100 ∷ bits 12 12 0 ∷ rs2 0 ∷ [] ⇒ CJr)
    ∷ (quadrant 0b10 ∷ funct3 0b100 ∷ bits 12 12 0 ∷ [] ⇒ CMv)
    ∷ (quadrant 0b10 ∷ funct3 0b100 ∷ bits 12 12 1 ∷ rd 0 ∷ rs2 0 ∷ [] ⇒ CEbreak)
    ∷ (quadrant 0b10 ∷ funct3 0b100 ∷ bits 12 12 1 ∷ rs2 0 ∷ [] ⇒ CJalr)
    ∷ (quadrant 0b10 ∷ funct3 0b100 ∷ bits 12 12 1 ∷ [] ⇒ CAdd)
    ∷ []

-- quadrant 10
abbrev pub quadrant_2_rows : List Row
quadrant_2_rows =
    (quadrant 0b10 ∷ funct3 0b000 ∷ [] ⇒ CSlli)
    ∷ (quadrant 0b10 ∷ funct3 0b010 ∷ rd 0 ∷ [] ⇒ Reserved)
    ∷ (quadrant 0b10 ∷ funct3 0b010 ∷ [] ⇒ CLwsp)
    ∷ (quadrant 0b10 ∷ funct3 0b011 ∷ rd 0 ∷ [] ⇒ Reserved)
    ∷ (quadrant 0b10 ∷ funct3 0b011 ∷ [] ⇒ CLdsp)
    ∷ (quadrant 0b10 ∷ funct3 0b110 ∷ [] ⇒ CSwsp)
    ∷ (quadrant 0b10 ∷ funct3 0b111 ∷ [] ⇒ CSdsp)
    ∷ register_rows

abbrev pub table : List Row
table = quadrant_0_rows ++ (quadrant_1_rows ++ quadrant_2_rows)

-- the 32-bit instruction that a 16-bit pattern stands for, if there is one
unfoldable pub expansion : ℕ → Option ℕ
expansion half = expansion_in table half
