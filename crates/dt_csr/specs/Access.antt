use Rattle.std.specs.Prelude.{ℕ, ◌≡◌, ◌/◌, ◌%◌, ◌^◌, ◌*◌, ◌+◌, ◌==◌, nat_le, Bool, true, not, ◌&&◌, ◌||◌, if◌then◌else◌, Option, Some, None, option_and_then, is_some, bit_and}
use Rattle.std.specs.Option.{option_map_or}
use Rattle.std.specs.Int.{bit_at}
use Rattle.dt_csr.specs.declared.access.CsrRead.{CsrRead}
use Rattle.dt_csr.specs.declared.access.CsrRead.TheVariants.{Value, Counter, Pending, Illegal}
use Rattle.dt_csr.specs.declared.modes.TheConstants.{SUPERVISOR, MACHINE}
use Rattle.dt_csr.specs.declared.mstatus.TheConstants.{MPP, TVM, UXL, RESERVED_MODE}
use Rattle.dt_csr.specs.declared.satp.TheConstants.{MODE, BARE, SV39, SV48}
use Rattle.dt_csr.specs.declared.registers.Register.{Register}
use Rattle.dt_csr.specs.declared.registers.Register.TheVariants.{Mstatus, Medeleg, Mideleg, Mie, Mtvec, Mcounteren, Mscratch, Mepc, Mcause, Mtval, Mip, Mcycle, Minstret, Mhartid, Sstatus, Sie, Stvec, Scounteren, Sscratch, Sepc, Scause, Stval, Sip, Satp, Cycle, Time, Instret}
use Rattle.dt_csr.specs.declared.state.Csrs.{Csrs}
use Rattle.dt_csr.specs.Fields.{field_of, with_field, merged, masks_of}
use Rattle.dt_csr.specs.Registers.{Rule, every_bit, bits_under, status_bits, delegated_bits, kept_modes, no_effect, read_only, row_of, register_at, supervisor_fields, xlen_of_64, interrupts, supervisor_interrupts}

-- ---- which accesses are legal

-- the lowest mode that may access a register with this number (Volume II, section 2.1)
abbrev pub lowest_mode : ℕ → ℕ
lowest_mode number = number / 2 ^ 8 % 4

-- a register with this number cannot be written (Volume II, section 2.1)
abbrev pub is_read_only : ℕ → Bool
is_read_only number = number / 2 ^ 10 % 4 == 3

-- may this mode read a counter: below M by mcounteren, and in U by scounteren too (Volume II, sections 3.1.11 and 4.1.5)
abbrev pub counter_is_open : Csrs → ℕ → ℕ → Bool
counter_is_open c mode counter =
    nat_le MACHINE mode
    || ((bit_at c.mcounteren counter == 1) && (nat_le SUPERVISOR mode || (bit_at c.scounteren counter == 1)))

-- what a register asks of the state, beside its number (satp: Volume II, section 3.1.6.5)
abbrev pub is_open : Csrs → ℕ → Register → Bool
is_open c mode Satp = not ((mode == SUPERVISOR) && (field_of c.mstatus TVM == 1))
is_open c mode Cycle = counter_is_open c mode 0
is_open c mode Time = counter_is_open c mode 1
is_open c mode Instret = counter_is_open c mode 2
is_open c mode register = true

-- the register that an access reaches, where a register has the number and the mode may access it now
abbrev pub reached_by : Csrs → ℕ → ℕ → Option Register
reached_by c mode number =
    option_and_then
    (λ register. if nat_le (lowest_mode number) mode && is_open c mode register then Some register else None)
    (register_at number)

-- the register that a write reaches, where it is legal
abbrev pub reached_by_write : Csrs → ℕ → ℕ → Option Register
reached_by_write c mode number = if is_read_only number then None else reached_by c mode number

-- may this mode write the register with this number now
abbrev pub may_write_of : Csrs → ℕ → ℕ → Bool
may_write_of c mode number = is_some (reached_by_write c mode number)

-- ---- what a read shows

-- the value that is kept for a register, or that it always has: a view is about the register that it views
abbrev pub kept : Csrs → Register → ℕ
kept c Mstatus = c.mstatus
kept c Medeleg = c.medeleg
kept c Mideleg = c.mideleg
kept c Mie = c.mie
kept c Mtvec = c.mtvec
kept c Mcounteren = c.mcounteren
kept c Mscratch = c.mscratch
kept c Mepc = c.mepc
kept c Mcause = c.mcause
kept c Mtval = c.mtval
kept c Mcycle = c.cycle_floor
kept c Minstret = c.instret_floor
kept c Sstatus = c.mstatus
kept c Sie = c.mie
kept c Stvec = c.stvec
kept c Scounteren = c.scounteren
kept c Sscratch = c.sscratch
kept c Sepc = c.sepc
kept c Scause = c.scause
kept c Stval = c.stval
kept c Satp = c.satp
kept c Cycle = c.cycle_floor
kept c Time = c.time_floor
kept c Instret = c.instret_floor
kept c register = (row_of register).reset

-- what a read of a register shows
abbrev pub shown : Csrs → ℕ → Register → CsrRead
shown c hart Mhartid = Value hart
shown c hart Mip = Pending interrupts
shown c hart Sip = Pending (bit_and c.mideleg supervisor_interrupts)
shown c hart Mcycle = Counter 0
shown c hart Minstret = Counter 2
shown c hart Cycle = Counter 0
shown c hart Time = Counter 1
shown c hart Instret = Counter 2
shown c hart Sstatus = Value (bit_and c.mstatus (masks_of supervisor_fields + xlen_of_64 * 2 ^ UXL.low))
shown c hart Sie = Value (bit_and c.mie c.mideleg)
shown c hart register = Value (kept c register)

-- the answer to a read by hart `hart` in this mode
abbrev pub read_of : Csrs → ℕ → ℕ → ℕ → CsrRead
read_of c mode hart number = option_map_or (shown c hart) (reached_by c mode number) Illegal

-- the floor of a counter, where 0 is cycle, 1 is time, and any other number instret (this project's own)
abbrev pub floor_of : Csrs → ℕ → ℕ
floor_of c counter =
    if counter == 0 then c.cycle_floor else (if counter == 1 then c.time_floor else c.instret_floor)

-- the registers with another floor of a counter
abbrev pub with_floor : Csrs → ℕ → ℕ → Csrs
with_floor c counter value =
    if counter == 0
    then record c { cycle_floor = value }
    else (if counter == 1 then record c { time_floor = value } else record c { instret_floor = value })

-- ---- what a write leaves

-- the registers with another kept value for this register
abbrev pub with_kept : Csrs → Register → ℕ → Csrs
with_kept c Mstatus value = record c { mstatus = value }
with_kept c Medeleg value = record c { medeleg = value }
with_kept c Mideleg value = record c { mideleg = value }
with_kept c Mie value = record c { mie = value }
with_kept c Mtvec value = record c { mtvec = value }
with_kept c Mcounteren value = record c { mcounteren = value }
with_kept c Mscratch value = record c { mscratch = value }
with_kept c Mepc value = record c { mepc = value }
with_kept c Mcause value = record c { mcause = value }
with_kept c Mtval value = record c { mtval = value }
with_kept c Mcycle value = record c { cycle_floor = value }
with_kept c Minstret value = record c { instret_floor = value }
with_kept c Sstatus value = record c { mstatus = value }
with_kept c Sie value = record c { mie = value }
with_kept c Stvec value = record c { stvec = value }
with_kept c Scounteren value = record c { scounteren = value }
with_kept c Sscratch value = record c { sscratch = value }
with_kept c Sepc value = record c { sepc = value }
with_kept c Scause value = record c { scause = value }
with_kept c Stval value = record c { stval = value }
with_kept c Satp value = record c { satp = value }
with_kept c register value = c

-- is a MODE kept by satp: that of Sv48 only where the registers are wide (Volume II, section 4.1.11)
abbrev pub keeps_mode : Bool → ℕ → Bool
keeps_mode wide mode = (mode == BARE) || (mode == SV39) || (wide && (mode == SV48))

-- mstatus after a write: an MPP that names no mode is not written
abbrev pub rewritten_status : ℕ → ℕ → ℕ → ℕ
rewritten_status mask old new =
    if field_of new MPP == RESERVED_MODE
    then with_field (merged mask old new) MPP (field_of old MPP)
    else merged mask old new

-- the value of a register after a write, by its rule
abbrev pub rewritten : Csrs → Rule → ℕ → ℕ → ℕ
rewritten c every_bit old new = new
rewritten c (bits_under mask) old new = merged mask old new
rewritten c (status_bits mask) old new = rewritten_status mask old new
rewritten c delegated_bits old new = merged c.mideleg old new
rewritten c kept_modes old new = if keeps_mode c.wide (field_of new MODE) then new else old
rewritten c no_effect old new = old
rewritten c read_only old new = old

-- the registers after a legal write
abbrev pub written : Csrs → Register → ℕ → Csrs
written c register value = with_kept c register (rewritten c (row_of register).rule (kept c register) value)

-- the registers after a write, which changes nothing where it is illegal
abbrev pub write_of : Csrs → ℕ → ℕ → ℕ → Csrs
write_of c mode number value =
    option_map_or (λ register. written c register value) (reached_by_write c mode number) c

-- the registers differ at most in the value of this register
abbrev pub ChangesOnly : Register → Csrs → Csrs → Type 0
ChangesOnly register old new = new ≡ with_kept old register (kept new register)
