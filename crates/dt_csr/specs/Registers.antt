use Rattle.std.specs.Prelude.{ℕ, ◌+◌, ◌-◌, ◌*◌, ◌^◌, ◌≡◌, ◌==◌, refl, List, [], ◌∷◌, find, Option, Some, None, false}
use Rattle.dt_csr.specs.declared.fields.Field.{Field}
use Rattle.dt_csr.specs.declared.registers.Register.{Register}
use Rattle.dt_csr.specs.declared.registers.Register.TheVariants.{Mstatus, Misa, Medeleg, Mideleg, Mie, Mtvec, Mcounteren, Mscratch, Mepc, Mcause, Mtval, Mip, Mcycle, Minstret, Mvendorid, Marchid, Mimpid, Mhartid, Mconfigptr, Sstatus, Sie, Stvec, Scounteren, Sscratch, Sepc, Scause, Stval, Sip, Satp, Cycle, Time, Instret}
use Rattle.dt_csr.specs.declared.mstatus.TheConstants.{SIE, MIE, SPIE, MPIE, SPP, MPP, MPRV, SUM, MXR, TVM, TW, TSR, UXL, SXL}
use Rattle.dt_csr.specs.declared.state.Csrs.{Csrs}
use Rattle.dt_csr.specs.Fields.{masks_of}

-- how a write changes a register (this project's own)
pub data Rule : Type 0 where
  -- every bit is written
  every_bit : Rule
  -- the bits under the mask are written, and the others stay
  bits_under : ℕ → Rule
  -- the same, but an MPP that names no mode is not written
  status_bits : ℕ → Rule
  -- the bits that mideleg has are written, and the others stay
  delegated_bits : Rule
  -- nothing is written where the MODE is not kept
  kept_modes : Rule
  -- a write is legal and has no effect
  no_effect : Rule
  -- a write is illegal
  read_only : Rule

-- a line of the register table
pub record Row : Type 0 where
  pub number : ℕ
  -- the value after a reset, and of a register that is not kept the value that it always shows
  pub reset : ℕ
  pub rule : Rule

abbrev pub row : ℕ → ℕ → Rule → Row
row number reset rule = record { number = number; reset = reset; rule = rule }

-- the fields of mstatus that S sees and writes in sstatus (Volume II, section 4.1.1)
abbrev pub supervisor_fields : List Field
supervisor_fields = SIE ∷ SPIE ∷ SPP ∷ SUM ∷ MXR ∷ []

-- the fields of mstatus that can be written (this project's own choice among those of Volume II, section 3.1.6)
abbrev pub status_fields : List Field
status_fields = SIE ∷ MIE ∷ SPIE ∷ MPIE ∷ SPP ∷ MPP ∷ MPRV ∷ SUM ∷ MXR ∷ TVM ∷ TW ∷ TSR ∷ []

-- what UXL and SXL hold, for registers of 64 bits
abbrev pub xlen_of_64 : ℕ
xlen_of_64 = 2

-- the bits of the software, timer and external interrupts of S, which have the codes 1, 5 and 9 (Volume II, section 3.1.9)
abbrev pub supervisor_interrupts : ℕ
supervisor_interrupts = 0x222

-- those of S and M, which have the codes 1, 3, 5, 7, 9 and 11
abbrev pub interrupts : ℕ
interrupts = 0xAAA

-- every bit of a register but one
abbrev pub but_bit : ℕ → ℕ
but_bit bit = 2 ^ 64 - 1 - 2 ^ bit

-- the register table (this project's own profile of Volume II, chapter 2)
abbrev pub row_of : Register → Row
row_of Mstatus = row 0x300 (xlen_of_64 * 2 ^ UXL.low + xlen_of_64 * 2 ^ SXL.low) (status_bits (masks_of status_fields))
row_of Misa = row 0x301 0x8000_0000_0014_1105 no_effect
row_of Medeleg = row 0x302 0 (bits_under 0xB3FF)
row_of Mideleg = row 0x303 0 (bits_under supervisor_interrupts)
row_of Mie = row 0x304 0 (bits_under interrupts)
row_of Mtvec = row 0x305 0 (bits_under (but_bit 1))
row_of Mcounteren = row 0x306 0 (bits_under 7)
row_of Mscratch = row 0x340 0 every_bit
row_of Mepc = row 0x341 0 (bits_under (but_bit 0))
row_of Mcause = row 0x342 0 every_bit
row_of Mtval = row 0x343 0 every_bit
row_of Mip = row 0x344 0 no_effect
row_of Mcycle = row 0xB00 0 every_bit
row_of Minstret = row 0xB02 0 every_bit
row_of Mvendorid = row 0xF11 0 read_only
row_of Marchid = row 0xF12 0 read_only
row_of Mimpid = row 0xF13 0 read_only
row_of Mhartid = row 0xF14 0 read_only
row_of Mconfigptr = row 0xF15 0 read_only
row_of Sstatus = row 0x100 (xlen_of_64 * 2 ^ UXL.low) (bits_under (masks_of supervisor_fields))
row_of Sie = row 0x104 0 delegated_bits
row_of Stvec = row 0x105 0 (bits_under (but_bit 1))
row_of Scounteren = row 0x106 0 (bits_under 7)
row_of Sscratch = row 0x140 0 every_bit
row_of Sepc = row 0x141 0 (bits_under (but_bit 0))
row_of Scause = row 0x142 0 every_bit
row_of Stval = row 0x143 0 every_bit
row_of Sip = row 0x144 0 no_effect
row_of Satp = row 0x180 0 kept_modes
row_of Cycle = row 0xC00 0 read_only
row_of Time = row 0xC01 0 read_only
row_of Instret = row 0xC02 0 read_only

-- every register of the table
abbrev pub registers : List Register
registers = Mstatus ∷ Misa ∷ Medeleg ∷ Mideleg ∷ Mie ∷ Mtvec ∷ Mcounteren ∷ Mscratch ∷ Mepc ∷ Mcause ∷ Mtval ∷ Mip
    ∷ Mcycle ∷ Minstret ∷ Mvendorid ∷ Marchid ∷ Mimpid ∷ Mhartid ∷ Mconfigptr
    ∷ Sstatus ∷ Sie ∷ Stvec ∷ Scounteren ∷ Sscratch ∷ Sepc ∷ Scause ∷ Stval ∷ Sip ∷ Satp
    ∷ Cycle ∷ Time ∷ Instret ∷ []

-- the register with this number
unfoldable pub register_at : ℕ → Option Register
register_at number = find (λ register. (row_of register).number == number) registers

-- the registers after a reset
abbrev pub reset_csrs : Csrs
reset_csrs = record {
  mstatus = (row_of Mstatus).reset;
  medeleg = (row_of Medeleg).reset;
  mideleg = (row_of Mideleg).reset;
  mie = (row_of Mie).reset;
  mtvec = (row_of Mtvec).reset;
  mcounteren = (row_of Mcounteren).reset;
  mscratch = (row_of Mscratch).reset;
  mepc = (row_of Mepc).reset;
  mcause = (row_of Mcause).reset;
  mtval = (row_of Mtval).reset;
  stvec = (row_of Stvec).reset;
  scounteren = (row_of Scounteren).reset;
  sscratch = (row_of Sscratch).reset;
  sepc = (row_of Sepc).reset;
  scause = (row_of Scause).reset;
  stval = (row_of Stval).reset;
  satp = (row_of Satp).reset;
  cycle_floor = (row_of Mcycle).reset;
  instret_floor = (row_of Minstret).reset;
  time_floor = (row_of Time).reset;
  wide = false;
}

-- ---- rows of the table as numbers

pub mstatus_reset : (row_of Mstatus).reset ≡ 0x0000_000A_0000_0000
mstatus_reset = refl

pub mstatus_mask : masks_of status_fields ≡ 0x7E19AA
mstatus_mask = refl

pub sstatus_mask : masks_of supervisor_fields ≡ 0xC0122
sstatus_mask = refl

pub sstatus_shown : masks_of supervisor_fields + xlen_of_64 * 2 ^ UXL.low ≡ 0x2_000C_0122
sstatus_shown = refl

pub sstatus_number : register_at 0x100 ≡ Some Sstatus
unfolding register_at
sstatus_number = refl

pub no_number : register_at 0x3A0 ≡ None
unfolding register_at
no_number = refl
