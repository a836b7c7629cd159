use Rattle.std.specs.Prelude.{ℕ, ◌≢◌, ◌-◌, ◌^◌, ◌<◌, ◌==◌, Bool, not, ◌&&◌, List, [], ◌∷◌, IsTrue, bit_and, slice_index}
use Rattle.std.specs.Int.{w64, bit_not}
use Rattle.dt_csr.specs.declared.mstatus.TheConstants.{MPP, RESERVED_MODE}
use Rattle.dt_csr.specs.declared.satp.TheConstants.{MODE}
use Rattle.dt_csr.specs.declared.registers.Register.{Register}
use Rattle.dt_csr.specs.declared.registers.Register.TheVariants.{Mstatus, Medeleg, Mideleg, Mie, Mtvec, Mcounteren, Mscratch, Mepc, Mcause, Mtval, Stvec, Scounteren, Sscratch, Sepc, Scause, Stval, Satp}
use Rattle.dt_csr.specs.declared.state.Csrs.{Csrs}
use Rattle.dt_csr.specs.Fields.{field_of, IsSameOutside}
use Rattle.dt_csr.specs.Registers.{Rule, every_bit, bits_under, status_bits, delegated_bits, kept_modes, no_effect, read_only, row_of, supervisor_interrupts}
use Rattle.dt_csr.specs.Access.{keeps_mode}

-- the 17 registers that are kept, in the order of a record of them (this project's own)
abbrev pub kept_registers : List Register
kept_registers = Mstatus ∷ Medeleg ∷ Mideleg ∷ Mie ∷ Mtvec ∷ Mcounteren ∷ Mscratch ∷ Mepc ∷ Mcause ∷ Mtval
    ∷ Stvec ∷ Scounteren ∷ Sscratch ∷ Sepc ∷ Scause ∷ Stval ∷ Satp ∷ []

-- their values in this order
abbrev pub values_of : Csrs → List ℕ
values_of c = c.mstatus ∷ c.medeleg ∷ c.mideleg ∷ c.mie ∷ c.mtvec ∷ c.mcounteren ∷ c.mscratch ∷ c.mepc ∷ c.mcause ∷ c.mtval
    ∷ c.stvec ∷ c.scounteren ∷ c.sscratch ∷ c.sepc ∷ c.scause ∷ c.stval ∷ c.satp ∷ []

-- the bits that a write by this rule can reach at most
abbrev pub reach : Rule → ℕ
reach every_bit = 2 ^ 64 - 1
reach (bits_under mask) = mask
reach (status_bits mask) = mask
reach delegated_bits = supervisor_interrupts
reach kept_modes = 2 ^ 64 - 1
reach no_effect = 0
reach read_only = 0

-- a value of 64 bits whose bits outside the mask are those of the reset value
abbrev pub IsFixedOutside : ℕ → ℕ → ℕ → Type 0
IsFixedOutside mask reset value =
    (value < 2 ^ 64) × IsSameOutside mask reset value

-- a value that a register can have: the bits that no write reaches are those after a reset
abbrev pub HasFixedBits : Register → ℕ → Type 0
HasFixedBits register value = IsFixedOutside (reach (row_of register).rule) (row_of register).reset value

-- values for some registers, in their order
abbrev pub HaveFixedBits : List Register → List ℕ → Type 0
HaveFixedBits [] [] = Unit {0}
HaveFixedBits (register ∷ registers) (value ∷ values) = HasFixedBits register value × HaveFixedBits registers values
HaveFixedBits [] (value ∷ values) = ⊥
HaveFixedBits (register ∷ registers) [] = ⊥

-- the MPP of mstatus names a mode
abbrev pub NamesMode : ℕ → Type 0
NamesMode status = field_of status MPP ≢ RESERVED_MODE

-- registers as a hart can have them: the table's bounds on each value (this project's own)
pub record AreKeptInBounds (c : Csrs) : Type 0 where
  pub fixed_bits : HaveFixedBits kept_registers (values_of c)
  pub mpp : NamesMode c.mstatus
  pub satp_mode : IsTrue (keeps_mode c.wide (field_of c.satp MODE))
  pub floors : (c.cycle_floor < 2 ^ 64) × (c.instret_floor < 2 ^ 64) × (c.time_floor < 2 ^ 64)

-- values that these registers can have together: the table's bounds on each, by whether satp keeps the MODE of Sv48
pub record KeepsBounds (values : List ℕ) (wide : Bool) : Type 0 where
  pub fixed_bits : HaveFixedBits kept_registers values
  pub mpp : NamesMode (slice_index values 0)
  pub satp_mode : IsTrue (keeps_mode wide (field_of (slice_index values 16) MODE))

-- the bounds of a register as a test
abbrev pub has_fixed_bits : Register → ℕ → Bool
has_fixed_bits register value =
    let fixed = bit_not w64 (reach (row_of register).rule) in
    bit_and value fixed == bit_and (row_of register).reset fixed

-- the test of those registers of M of which not every bit can be written, and of those of S
abbrev pub machine_has_fixed_bits : Csrs → Bool
machine_has_fixed_bits c =
    has_fixed_bits Mstatus c.mstatus && (has_fixed_bits Medeleg c.medeleg && (has_fixed_bits Mideleg c.mideleg
    && (has_fixed_bits Mie c.mie && (has_fixed_bits Mtvec c.mtvec && (has_fixed_bits Mcounteren c.mcounteren
    && has_fixed_bits Mepc c.mepc)))))

abbrev pub supervisor_has_fixed_bits : Csrs → Bool
supervisor_has_fixed_bits c =
    has_fixed_bits Stvec c.stvec && (has_fixed_bits Scounteren c.scounteren && has_fixed_bits Sepc c.sepc)

-- all bounds as a test of the registers with the values, where each has 64 bits
abbrev pub are_within_bounds : Csrs → Bool → Bool
are_within_bounds c wide =
    machine_has_fixed_bits c && (supervisor_has_fixed_bits c && (not (field_of c.mstatus MPP == RESERVED_MODE)
    && keeps_mode wide (field_of c.satp MODE)))
