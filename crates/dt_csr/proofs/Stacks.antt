-- the fields of mstatus through a trap and back
use Rattle.std.proofs.Common.{◌≡◌, ◌≢◌, ℕ, ◌+◌, ◌/◌, ◌%◌, ◌^◌, ◌<◌, ◌≤◌, refl, sym, ◌∙◌, ap, subst, arith, nat_eq, ⊎_elim, bit_and, if◌then◌else◌, set, ◌&&◌}
use Rattle.std.specs.Int.{w64, bit_not}
use Rattle.std.proofs.Math.Nat.{mod-lt}
use Rattle.std.proofs.lemmas.Bool.{cond_both, cases_lt, le-ltb}
use Rattle.std.proofs.lemmas.Nat.{and_mask}
use Rattle.dt_csr.specs.declared.fields.Field.{Field}
use Rattle.dt_csr.specs.declared.modes.TheConstants.{USER, SUPERVISOR, MACHINE}
use Rattle.dt_csr.specs.declared.mstatus.TheConstants.{SIE, MIE, SPIE, MPIE, SPP, MPP, MPRV}
use Rattle.dt_csr.specs.declared.registers.Register.TheVariants.{Mstatus, Mepc, Mcause, Mtval, Sepc, Scause, Stval}
use Rattle.dt_csr.specs.declared.state.Csrs.{Csrs}
use Rattle.dt_csr.specs.Fields.{mask_of, masks_of, field_of, with_field}
use Rattle.dt_csr.specs.Modes.{IsMode}
use Rattle.dt_csr.specs.Registers.{row_of, status_fields}
use Rattle.dt_csr.specs.Traps.{status_in_s, status_in_m, status_after_mret, status_after_sret, is_delegated, trap_mode, entered, entered_s, entered_m, after_mret, after_sret}
use Rattle.dt_csr.specs.Kept.{HasFixedBits, AreKeptInBounds, kept_registers, values_of}
use Rattle.dt_csr.proofs.Bits.{field_put, field_apart}
use Rattle.dt_csr.proofs.Writes.{fixed_put, change_fixed, whole}

-- a bit of mstatus is 0 or 1
bit_small : (status : ℕ) (low : ℕ) → status / 2 ^ low % 2 ^ 1 < 2 ^ 1
bit_small status low = mod-lt (status / 2 ^ low) (omega arith)

-- a field that can be written keeps the other bits of mstatus
put_status : (field : Field) (old v : ℕ) → field.low + field.width ≤ 64 → bit_and (mask_of field) (bit_not w64 (masks_of status_fields)) ≡ 0 → v < 2 ^ field.width → HasFixedBits Mstatus old → HasFixedBits Mstatus (with_field old field v)
put_status field old v inside apart fits h = fixed_put (masks_of status_fields) (row_of Mstatus).reset old field v inside apart fits h

pub in_s_fixed : (status mode : ℕ) → mode < 2 → HasFixedBits Mstatus status → HasFixedBits Mstatus (status_in_s status mode)
in_s_fixed status mode small h =
    put_status SPP (with_field (with_field status SPIE (field_of status SIE)) SIE 0) mode (omega arith) refl small
    (put_status SIE (with_field status SPIE (field_of status SIE)) 0 (omega arith) refl (omega arith)
    (put_status SPIE status (field_of status SIE) (omega arith) refl (bit_small status 1) h))

pub in_m_fixed : (status mode : ℕ) → mode < 4 → HasFixedBits Mstatus status → HasFixedBits Mstatus (status_in_m status mode)
in_m_fixed status mode small h =
    put_status MPP (with_field (with_field status MPIE (field_of status MIE)) MIE 0) mode (omega arith) refl small
    (put_status MIE (with_field status MPIE (field_of status MIE)) 0 (omega arith) refl (omega arith)
    (put_status MPIE status (field_of status MIE) (omega arith) refl (bit_small status 3) h))

-- mstatus after MRET, but for MPRV
abbrev popped_m : ℕ → ℕ
popped_m status = with_field (with_field (with_field status MIE (field_of status MPIE)) MPIE 1) MPP USER

pub mret_fixed : (status : ℕ) → HasFixedBits Mstatus status → HasFixedBits Mstatus (status_after_mret status)
mret_fixed status h =
    let popped =
    put_status MPP (with_field (with_field status MIE (field_of status MPIE)) MPIE 1) USER (omega arith) refl (omega arith)
    (put_status MPIE (with_field status MIE (field_of status MPIE)) 1 (omega arith) refl (omega arith)
    (put_status MIE status (field_of status MPIE) (omega arith) refl (bit_small status 7) h)) in
    cond_both (nat_eq (field_of status MPP) MACHINE) (popped_m status) (with_field (popped_m status) MPRV 0) (HasFixedBits Mstatus)
    (λ _. popped) (λ _. put_status MPRV (popped_m status) 0 (omega arith) refl (omega arith) popped)

pub sret_fixed : (status : ℕ) → HasFixedBits Mstatus status → HasFixedBits Mstatus (status_after_sret status)
sret_fixed status h =
    put_status MPRV (with_field (with_field (with_field status SIE (field_of status SPIE)) SPIE 1) SPP USER) 0 (omega arith) refl (omega arith)
    (put_status SPP (with_field (with_field status SIE (field_of status SPIE)) SPIE 1) USER (omega arith) refl (omega arith)
    (put_status SPIE (with_field status SIE (field_of status SPIE)) 1 (omega arith) refl (omega arith)
    (put_status SIE status (field_of status SPIE) (omega arith) refl (bit_small status 5) h)))

-- ---- MPP

-- a field of mstatus that shares no bit with the one that is put
beside : (status v : ℕ) (field other : Field) → field.low + field.width ≤ 64 → other.low + other.width ≤ 64 → bit_and (mask_of field) (mask_of other) ≡ 0 → field_of (with_field status field v) other ≡ field_of status other
beside status v field other inside within apart = field_apart status field other v inside within apart

pub in_s_mpp : (status mode : ℕ) → field_of (status_in_s status mode) MPP ≡ field_of status MPP
in_s_mpp status mode =
    beside (with_field (with_field status SPIE (field_of status SIE)) SIE 0) mode SPP MPP (omega arith) (omega arith) refl
    ∙ beside (with_field status SPIE (field_of status SIE)) 0 SIE MPP (omega arith) (omega arith) refl
    ∙ beside status (field_of status SIE) SPIE MPP (omega arith) (omega arith) refl

pub in_m_mpp : (status mode : ℕ) → mode < 4 → field_of (status_in_m status mode) MPP ≡ mode
in_m_mpp status mode small = field_put (with_field (with_field status MPIE (field_of status MIE)) MIE 0) MPP mode (omega arith) small

pub mret_mpp : (status : ℕ) → field_of (status_after_mret status) MPP ≡ USER
mret_mpp status =
    let popped = field_put (with_field (with_field status MIE (field_of status MPIE)) MPIE 1) MPP USER (omega arith) (omega arith) in
    cond_both (nat_eq (field_of status MPP) MACHINE) (popped_m status) (with_field (popped_m status) MPRV 0) (λ s. field_of s MPP ≡ USER)
    (λ _. popped) (λ _. beside (popped_m status) 0 MPRV MPP (omega arith) (omega arith) refl ∙ popped)

pub sret_mpp : (status : ℕ) → field_of (status_after_sret status) MPP ≡ field_of status MPP
sret_mpp status =
    beside (with_field (with_field (with_field status SIE (field_of status SPIE)) SPIE 1) SPP USER) 0 MPRV MPP (omega arith) (omega arith) refl
    ∙ beside (with_field (with_field status SIE (field_of status SPIE)) SPIE 1) USER SPP MPP (omega arith) (omega arith) refl
    ∙ beside (with_field status SIE (field_of status SPIE)) 1 SPIE MPP (omega arith) (omega arith) refl
    ∙ beside status (field_of status SPIE) SIE MPP (omega arith) (omega arith) refl

pub mode_small : (mode : ℕ) → IsMode mode → mode < 4
mode_small mode is = omega (arith, is)

pub mode_named : (mode : ℕ) → IsMode mode → mode ≢ 2
mode_named mode is e = omega (arith, is)

-- ---- registers as a hart can have them

-- Mepc and Sepc have one rule
even_pc : (pc : ℕ) → pc < 2 ^ 64 → pc % 2 ≡ 0 → HasFixedBits Mepc pc
even_pc pc fits even = (fits, and_mask pc 1 ∙ even)

pub entered_s_keeps : (c : Csrs) (mode pc cause tval : ℕ) → mode < 2 → pc < 2 ^ 64 → pc % 2 ≡ 0 → cause < 2 ^ 64 → tval < 2 ^ 64 → AreKeptInBounds c → AreKeptInBounds (entered_s c mode pc cause tval)
entered_s_keeps c mode pc cause tval small fits even of_cause of_tval h =
    let status = status_in_s c.mstatus mode in
    let first = set (values_of c) 0 status in
    let second = set first 13 pc in
    let third = set second 14 cause in
    record {
      fixed_bits =
          change_fixed kept_registers third 15 tval Stval
          (change_fixed kept_registers second 14 cause Scause
          (change_fixed kept_registers first 13 pc Sepc
          (change_fixed kept_registers (values_of c) 0 status Mstatus h.fixed_bits refl (in_s_fixed c.mstatus mode small))
          refl (λ _. even_pc pc fits even))
          refl (λ _. whole cause of_cause))
          refl (λ _. whole tval of_tval);
      mpp = (λ e. h.mpp (sym (in_s_mpp c.mstatus mode) ∙ e));
      satp_mode = h.satp_mode;
      floors = h.floors;
    }

pub entered_m_keeps : (c : Csrs) (mode pc cause tval : ℕ) → IsMode mode → pc < 2 ^ 64 → pc % 2 ≡ 0 → cause < 2 ^ 64 → tval < 2 ^ 64 → AreKeptInBounds c → AreKeptInBounds (entered_m c mode pc cause tval)
entered_m_keeps c mode pc cause tval is fits even of_cause of_tval h =
    let status = status_in_m c.mstatus mode in
    let first = set (values_of c) 0 status in
    let second = set first 7 pc in
    let third = set second 8 cause in
    record {
      fixed_bits =
          change_fixed kept_registers third 9 tval Mtval
          (change_fixed kept_registers second 8 cause Mcause
          (change_fixed kept_registers first 7 pc Mepc
          (change_fixed kept_registers (values_of c) 0 status Mstatus h.fixed_bits refl (in_m_fixed c.mstatus mode (mode_small mode is)))
          refl (λ _. even_pc pc fits even))
          refl (λ _. whole cause of_cause))
          refl (λ _. whole tval of_tval);
      mpp = (λ e. mode_named mode is (sym (in_m_mpp c.mstatus mode (mode_small mode is)) ∙ e));
      satp_mode = h.satp_mode;
      floors = h.floors;
    }

pub mret_keeps : (c : Csrs) → AreKeptInBounds c → AreKeptInBounds (after_mret c)
mret_keeps c h =
    record {
      fixed_bits = change_fixed kept_registers (values_of c) 0 (status_after_mret c.mstatus) Mstatus h.fixed_bits refl (mret_fixed c.mstatus);
      mpp = (λ e. absurd (omega (arith, sym (mret_mpp c.mstatus) ∙ e)));
      satp_mode = h.satp_mode;
      floors = h.floors;
    }

pub sret_keeps : (c : Csrs) → AreKeptInBounds c → AreKeptInBounds (after_sret c)
sret_keeps c h =
    record {
      fixed_bits = change_fixed kept_registers (values_of c) 0 (status_after_sret c.mstatus) Mstatus h.fixed_bits refl (sret_fixed c.mstatus);
      mpp = (λ e. h.mpp (sym (sret_mpp c.mstatus) ∙ e));
      satp_mode = h.satp_mode;
      floors = h.floors;
    }

-- ---- a trap and the return from it

-- what holds of the registers after a trap into M, or into S, holds of those after the trap
pub when_m : (c : Csrs) (mode pc cause tval : ℕ) (P : Csrs → Type 0) → trap_mode c mode cause ≡ MACHINE → P (entered_m c mode pc cause tval) → P (entered c mode pc cause tval)
when_m c mode pc cause tval P e h =
    let Q : ℕ → Type 0 = λ n. P (if nat_eq n SUPERVISOR then entered_s c mode pc cause tval else entered_m c mode pc cause tval) in
    subst Q (sym e) h

pub when_s : (c : Csrs) (mode pc cause tval : ℕ) (P : Csrs → Type 0) → trap_mode c mode cause ≡ SUPERVISOR → P (entered_s c mode pc cause tval) → P (entered c mode pc cause tval)
when_s c mode pc cause tval P e h =
    let Q : ℕ → Type 0 = λ n. P (if nat_eq n SUPERVISOR then entered_s c mode pc cause tval else entered_m c mode pc cause tval) in
    subst Q (sym e) h

-- a trap into S comes from U or S
pub from_below : (c : Csrs) (mode cause : ℕ) → trap_mode c mode cause ≡ SUPERVISOR → mode < MACHINE
from_below c mode cause e =
    ⊎_elim
    (λ (below : mode < 3). below)
    (λ (above : 3 ≤ mode).
    let taken_in_m : trap_mode c mode cause ≡ MACHINE = ap (λ b. if b && is_delegated c cause then SUPERVISOR else MACHINE) (le-ltb mode 3 above) in
    absurd (omega (arith, sym taken_in_m ∙ e)))
    (cases_lt mode 3)

pub from_s_or_u : (mode : ℕ) → IsMode mode → mode < MACHINE → mode < 2
from_s_or_u mode is below = omega (arith, is)

-- the interrupt enable through a trap and back
pub mie_back : (status mode : ℕ) → field_of (status_after_mret (status_in_m status mode)) MIE ≡ field_of status MIE
mie_back status mode =
    let inside = status_in_m status mode in
    let enabled = with_field inside MIE (field_of inside MPIE) in
    let back : field_of (popped_m inside) MIE ≡ field_of status MIE =
    beside (with_field enabled MPIE 1) USER MPP MIE (omega arith) (omega arith) refl
    ∙ beside enabled 1 MPIE MIE (omega arith) (omega arith) refl
    ∙ field_put inside MIE (field_of inside MPIE) (omega arith) (bit_small inside 7)
    ∙ beside (with_field (with_field status MPIE (field_of status MIE)) MIE 0) mode MPP MPIE (omega arith) (omega arith) refl
    ∙ beside (with_field status MPIE (field_of status MIE)) 0 MIE MPIE (omega arith) (omega arith) refl
    ∙ field_put status MPIE (field_of status MIE) (omega arith) (bit_small status 3) in
    cond_both (nat_eq (field_of inside MPP) MACHINE) (popped_m inside) (with_field (popped_m inside) MPRV 0) (λ s. field_of s MIE ≡ field_of status MIE)
    (λ _. back) (λ _. beside (popped_m inside) 0 MPRV MIE (omega arith) (omega arith) refl ∙ back)

pub sie_back : (status mode : ℕ) → field_of (status_after_sret (status_in_s status mode)) SIE ≡ field_of status SIE
sie_back status mode =
    let inside = status_in_s status mode in
    let enabled = with_field inside SIE (field_of inside SPIE) in
    beside (with_field (with_field enabled SPIE 1) SPP USER) 0 MPRV SIE (omega arith) (omega arith) refl
    ∙ beside (with_field enabled SPIE 1) USER SPP SIE (omega arith) (omega arith) refl
    ∙ beside enabled 1 SPIE SIE (omega arith) (omega arith) refl
    ∙ field_put inside SIE (field_of inside SPIE) (omega arith) (bit_small inside 5)
    ∙ beside (with_field (with_field status SPIE (field_of status SIE)) SIE 0) mode SPP SPIE (omega arith) (omega arith) refl
    ∙ beside (with_field status SPIE (field_of status SIE)) 0 SIE SPIE (omega arith) (omega arith) refl
    ∙ field_put status SPIE (field_of status SIE) (omega arith) (bit_small status 1)

pub in_s_spp : (status mode : ℕ) → mode < 2 → field_of (status_in_s status mode) SPP ≡ mode
in_s_spp status mode small = field_put (with_field (with_field status SPIE (field_of status SIE)) SIE 0) SPP mode (omega arith) small
