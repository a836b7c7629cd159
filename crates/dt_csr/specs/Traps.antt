use Rattle.std.specs.Prelude.{ℕ, ◌+◌, ◌*◌, ◌/◌, ◌%◌, ◌^◌, ◌==◌, nat_lt, zero, suc, Bool, ◌&&◌, ◌||◌, if◌then◌else◌, [], ◌∷◌}
use Rattle.std.specs.List.{list_any}
use Rattle.std.specs.Int.{bit_at}
use Rattle.dt_csr.specs.declared.cause.TheConstants.{INTERRUPT, CODE, VECTORED, FETCH_ACCESS, ILLEGAL_INSTRUCTION, BREAKPOINT, LOAD_MISALIGNED, LOAD_ACCESS, STORE_MISALIGNED, STORE_ACCESS, FETCH_PAGE, LOAD_PAGE, STORE_PAGE}
use Rattle.dt_csr.specs.declared.modes.TheConstants.{USER, SUPERVISOR, MACHINE}
use Rattle.dt_csr.specs.declared.mstatus.TheConstants.{SIE, MIE, SPIE, MPIE, SPP, MPP, MPRV}
use Rattle.dt_csr.specs.declared.state.Csrs.{Csrs}
use Rattle.dt_csr.specs.Fields.{field_of, with_field}

-- ---- entry of a trap (Volume II, section 3.1.6.1)

-- is this cause delegated to S (Volume II, section 3.1.8)
abbrev pub is_delegated : Csrs → ℕ → Bool
is_delegated c cause =
    bit_at (if field_of cause INTERRUPT == 1 then c.mideleg else c.medeleg) (field_of cause CODE) == 1

-- the mode in which a trap is taken: S where it comes from below M and its cause is delegated, else M
abbrev pub trap_mode : Csrs → ℕ → ℕ → ℕ
trap_mode c mode cause = if nat_lt mode MACHINE && is_delegated c cause then SUPERVISOR else MACHINE

-- the pc to which a vector sends a trap: an interrupt has a place of its own in vectored mode (Volume II, section 3.1.7)
abbrev pub trap_pc : ℕ → ℕ → ℕ
trap_pc vector cause =
    (vector / 4 * 4 + (if (field_of cause INTERRUPT == 1) && (field_of vector VECTORED == 1) then 4 * field_of cause CODE else 0)) % 2 ^ 64

-- is it a cause whose tval is the virtual address of a fetch, load or store: access faults, page faults and addresses
-- that are not aligned (Volume II, section 3.1.16)
abbrev pub has_address : ℕ → Bool
has_address cause = list_any (λ known. cause == known)
    (FETCH_ACCESS ∷ LOAD_MISALIGNED ∷ LOAD_ACCESS ∷ STORE_MISALIGNED ∷ STORE_ACCESS ∷ FETCH_PAGE ∷ LOAD_PAGE ∷ STORE_PAGE ∷ [])

-- the tval that a cause is expected to come with, where the access or the instruction has this address, these bits and
-- this pc: the address, the bits of an illegal instruction, the pc of a breakpoint, else 0 (this project's own choice
-- among those of Volume II, section 3.1.16)
abbrev pub expected_tval : ℕ → ℕ → ℕ → ℕ → ℕ
expected_tval cause address bits pc =
    if has_address cause then address else (if cause == ILLEGAL_INSTRUCTION then bits else (if cause == BREAKPOINT then pc else 0))

-- mstatus after a trap into S from this mode
abbrev pub status_in_s : ℕ → ℕ → ℕ
status_in_s status mode = with_field (with_field (with_field status SPIE (field_of status SIE)) SIE 0) SPP mode

-- mstatus after a trap into M from this mode
abbrev pub status_in_m : ℕ → ℕ → ℕ
status_in_m status mode = with_field (with_field (with_field status MPIE (field_of status MIE)) MIE 0) MPP mode

-- the registers after a trap into S, and after a trap into M
abbrev pub entered_s : Csrs → ℕ → ℕ → ℕ → ℕ → Csrs
entered_s c mode pc cause tval =
    record c { mstatus = status_in_s c.mstatus mode; sepc = pc; scause = cause; stval = tval }

abbrev pub entered_m : Csrs → ℕ → ℕ → ℕ → ℕ → Csrs
entered_m c mode pc cause tval =
    record c { mstatus = status_in_m c.mstatus mode; mepc = pc; mcause = cause; mtval = tval }

-- the registers after a trap
abbrev pub entered : Csrs → ℕ → ℕ → ℕ → ℕ → Csrs
entered c mode pc cause tval =
    if trap_mode c mode cause == SUPERVISOR then entered_s c mode pc cause tval else entered_m c mode pc cause tval

-- the pc after a trap
abbrev pub entered_pc : Csrs → ℕ → ℕ → ℕ
entered_pc c mode cause = trap_pc (if trap_mode c mode cause == SUPERVISOR then c.stvec else c.mtvec) cause

-- ---- return from a trap (Volume II, sections 3.1.6.1 and 3.3.2)

-- mstatus after MRET: MIE is taken back, and MPRV ends where the trap came from below M
abbrev pub status_after_mret : ℕ → ℕ
status_after_mret status =
    let popped = with_field (with_field (with_field status MIE (field_of status MPIE)) MPIE 1) MPP USER in
    if field_of status MPP == MACHINE then popped else with_field popped MPRV 0

-- mstatus after SRET: SIE is taken back, and MPRV ends
abbrev pub status_after_sret : ℕ → ℕ
status_after_sret status =
    with_field (with_field (with_field (with_field status SIE (field_of status SPIE)) SPIE 1) SPP USER) MPRV 0

-- the mode, the pc and the registers after MRET
abbrev pub mret_mode : Csrs → ℕ
mret_mode c = field_of c.mstatus MPP

abbrev pub mret_pc : Csrs → ℕ
mret_pc c = c.mepc

abbrev pub after_mret : Csrs → Csrs
after_mret c = record c { mstatus = status_after_mret c.mstatus }

-- the mode, the pc and the registers after SRET
abbrev pub sret_mode : Csrs → ℕ
sret_mode c = field_of c.mstatus SPP

abbrev pub sret_pc : Csrs → ℕ
sret_pc c = c.sepc

abbrev pub after_sret : Csrs → Csrs
after_sret c = record c { mstatus = status_after_sret c.mstatus }

-- ---- enabled interrupts (Volume II, sections 3.1.9 and 4.1.3)

-- does this mode take interrupts that go to M
abbrev pub takes_for_m : Csrs → ℕ → Bool
takes_for_m c mode = nat_lt mode MACHINE || (field_of c.mstatus MIE == 1)

-- does this mode take interrupts that go to S
abbrev pub takes_for_s : Csrs → ℕ → Bool
takes_for_s c mode = (mode == USER) || ((mode == SUPERVISOR) && (field_of c.mstatus SIE == 1))

-- is the interrupt with this code enabled in this mode: it goes to S where its bit of mideleg is set, else to M
abbrev pub is_enabled : Csrs → ℕ → ℕ → Bool
is_enabled c mode code =
    (bit_at c.mie code == 1) && (if bit_at c.mideleg code == 1 then takes_for_s c mode else takes_for_m c mode)

-- the number below 2 ^ n whose bits are those that pass a test
unfoldable pub bits_where : (ℕ → Bool) → ℕ → ℕ
bits_where test zero = 0
bits_where test (suc n) = bits_where test n + (if test n then 2 ^ n else 0)

-- the mask of the enabled codes
abbrev pub enabled_codes : Csrs → ℕ → ℕ
enabled_codes c mode = bits_where (is_enabled c mode) 64
