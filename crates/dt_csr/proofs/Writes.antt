-- writes leave registers as a hart can have them
use Rattle.std.proofs.Common.{◌≡◌, ℕ, suc, zero, ◌+◌, ◌-◌, ◌*◌, ◌/◌, ◌^◌, ◌<◌, ◌≤◌, refl, sym, ◌∙◌, ap, subst, arith, Bool, true, false, nat_eq, List, [], ◌∷◌, get_or, set, bit_and, IsTrue, if◌then◌else◌, pow_mono, Option, Some, None, ⊎_elim}
use Rattle.std.specs.Option.{option_and_then}
use Rattle.std.specs.Int.{w64, bit_not}
use Rattle.std.proofs.Math.Nat.{mod-lt}
use Rattle.std.proofs.lemmas.Bool.{cond_both, eqb-false, cases_Bool, cond-true, cond-false}
use Rattle.std.proofs.lemmas.Nat.{or_lt, and_le_l, shl_below, and_comm, and_assoc}
use Rattle.dt_csr.specs.declared.fields.Field.{Field}
use Rattle.dt_csr.specs.declared.mstatus.TheConstants.{MPP, RESERVED_MODE}
use Rattle.dt_csr.specs.declared.satp.TheConstants.{MODE}
use Rattle.dt_csr.specs.declared.registers.Register.{Register}
use Rattle.dt_csr.specs.declared.registers.Register.TheVariants.{Mstatus, Misa, Medeleg, Mideleg, Mie, Mtvec, Mcounteren, Mscratch, Mepc, Mcause, Mtval, Mip, Mcycle, Minstret, Mvendorid, Marchid, Mimpid, Mhartid, Mconfigptr, Sstatus, Sie, Stvec, Scounteren, Sscratch, Sepc, Scause, Stval, Sip, Satp, Cycle, Time, Instret}
use Rattle.dt_csr.specs.declared.state.Csrs.{Csrs}
use Rattle.dt_csr.specs.Fields.{merged, mask_of, masks_of, field_of, with_field}
use Rattle.dt_csr.specs.Registers.{row_of, status_fields, supervisor_fields, supervisor_interrupts, interrupts, but_bit}
use Rattle.dt_csr.specs.Access.{written, rewritten_status, keeps_mode, ChangesOnly}
use Rattle.dt_csr.specs.Kept.{IsFixedOutside, HasFixedBits, HaveFixedBits, NamesMode, AreKeptInBounds, kept_registers, values_of}
use Rattle.dt_csr.proofs.Bits.{merged_inside, merged_outside, mask_fits, same_field, field_put}

pub merged_fits : (mask old new : ℕ) → old < 2 ^ 64 → new < 2 ^ 64 → merged mask old new < 2 ^ 64
merged_fits mask old new p q =
    or_lt 64 (bit_and old (bit_not w64 mask)) (bit_and new mask) (omega (arith, and_le_l old (bit_not w64 mask))) (omega (arith, and_le_l new mask))

-- a masked write inside a mask keeps the bits outside it
pub fixed_under : (outer mask reset old new : ℕ) → mask < 2 ^ 64 → bit_and mask (bit_not w64 outer) ≡ 0 → new < 2 ^ 64 → IsFixedOutside outer reset old → IsFixedOutside outer reset (merged mask old new)
fixed_under outer mask reset old new small apart fits h =
    (merged_fits mask old new h.0 fits, merged_outside (bit_not w64 outer) mask old new small (omega arith) apart ∙ h.1)

-- a field inside a mask that is put keeps the bits outside it
pub fixed_put : (outer reset old : ℕ) (field : Field) (v : ℕ) → field.low + field.width ≤ 64 → bit_and (mask_of field) (bit_not w64 outer) ≡ 0 → v < 2 ^ field.width → IsFixedOutside outer reset old → IsFixedOutside outer reset (with_field old field v)
fixed_put outer reset old field v inside apart fits h =
    let below : v * 2 ^ field.low < 2 ^ (field.width + field.low) = shl_below v field.width field.low fits in
    let most : 2 ^ (field.width + field.low) ≤ 2 ^ 64 = pow_mono {i = field.width + field.low} {j = 64} (omega arith) in
    fixed_under outer (mask_of field) reset old (v * 2 ^ field.low) (mask_fits field inside) apart (omega arith) h

-- one value of a list is changed
pub change_fixed : (registers : List Register) (values : List ℕ) (place value : ℕ) (r : Register) → HaveFixedBits registers values → get_or registers place r ≡ r → (HasFixedBits r (get_or values place 0) → HasFixedBits r value) → HaveFixedBits registers (set values place value)
change_fixed [] [] place value r h e p = tt
change_fixed [] (v ∷ values) place value r h e p = absurd h
change_fixed (x ∷ registers) [] place value r h e p = absurd h
change_fixed (x ∷ registers) (v ∷ values) zero value r h e p =
    let P : Register → Type 0 = λ y. HasFixedBits y value in
    let Q : Register → Type 0 = λ y. HasFixedBits y v in
    (subst P (sym e) (p (subst Q e h.0)), h.1)
change_fixed (x ∷ registers) (v ∷ values) (suc place) value r h e p = (h.0, change_fixed registers values place value r h.1 e p)

-- mstatus by the rule of its line in the table
pub status_fixed : (old new : ℕ) → new < 2 ^ 64 → HasFixedBits Mstatus old → HasFixedBits Mstatus (rewritten_status (masks_of status_fields) old new)
status_fixed old new fits h =
    let joined = fixed_under (masks_of status_fields) (masks_of status_fields) (row_of Mstatus).reset old new (omega arith) refl fits h in
    cond_both (nat_eq (field_of new MPP) RESERVED_MODE) (with_field (merged (masks_of status_fields) old new) MPP (field_of old MPP)) (merged (masks_of status_fields) old new) (HasFixedBits Mstatus)
    (λ _. fixed_put (masks_of status_fields) (row_of Mstatus).reset (merged (masks_of status_fields) old new) MPP (field_of old MPP) (omega arith) refl (mod-lt (old / 2 ^ 11) (omega arith)) joined)
    (λ _. joined)

pub status_names : (old new : ℕ) → NamesMode old → NamesMode (rewritten_status (masks_of status_fields) old new)
status_names old new h =
    let status = merged (masks_of status_fields) old new in
    cond_both (nat_eq (field_of new MPP) RESERVED_MODE) (with_field status MPP (field_of old MPP)) status NamesMode
    (λ _ e. h (sym (field_put status MPP (field_of old MPP) (omega arith) (mod-lt (old / 2 ^ 11) (omega arith))) ∙ e))
    (λ other e. eqb-false (field_of new MPP) RESERVED_MODE other
    (sym (same_field status new MPP (merged_inside (mask_of MPP) (masks_of status_fields) old new (omega arith) (omega arith) refl)) ∙ e))

pub sstatus_names : (old new : ℕ) → NamesMode old → NamesMode (merged (masks_of supervisor_fields) old new)
sstatus_names old new h e =
    h (sym (same_field (merged (masks_of supervisor_fields) old new) old MPP (merged_outside (mask_of MPP) (masks_of supervisor_fields) old new (omega arith) (omega arith) refl)) ∙ e)

-- a masked write by a register's own mask
own : (mask old new : ℕ) → mask < 2 ^ 64 → bit_and mask (bit_not w64 mask) ≡ 0 → new < 2 ^ 64 → IsFixedOutside mask 0 old → IsFixedOutside mask 0 (merged mask old new)
own mask old new small apart fits h = fixed_under mask mask 0 old new small apart fits h

-- a register of which every bit can be written
pub whole : (value : ℕ) → value < 2 ^ 64 → IsFixedOutside (2 ^ 64 - 1) 0 value
whole value fits = (fits, and_comm value 0)

-- the bits of mie that mideleg has are among those that can be written
delegated : (mideleg mie value : ℕ) → value < 2 ^ 64 → HasFixedBits Mideleg mideleg → HasFixedBits Mie mie → HasFixedBits Mie (merged mideleg mie value)
delegated mideleg mie value fits among h =
    let beyond = bit_not w64 interrupts in
    let apart : bit_and mideleg beyond ≡ 0 = sym (and_assoc beyond mideleg (bit_not w64 supervisor_interrupts)) ∙ ap (λ n. bit_and n beyond) among.1 in
    fixed_under interrupts mideleg 0 mie value among.0 apart fits h

satp_fixed : (wide : Bool) (satp value : ℕ) → value < 2 ^ 64 → HasFixedBits Satp satp → HasFixedBits Satp (if keeps_mode wide (field_of value MODE) then value else satp)
satp_fixed wide satp value fits h =
    cond_both (keeps_mode wide (field_of value MODE)) value satp (HasFixedBits Satp) (λ _. whole value fits) (λ _. h)

satp_mode : (wide : Bool) (satp value : ℕ) → IsTrue (keeps_mode wide (field_of satp MODE)) → IsTrue (keeps_mode wide (field_of (if keeps_mode wide (field_of value MODE) then value else satp) MODE))
satp_mode wide satp value h =
    cond_both (keeps_mode wide (field_of value MODE)) value satp (λ n. IsTrue (keeps_mode wide (field_of n MODE))) (λ e. e) (λ _. h)

-- a legal write leaves registers as a hart can have them
pub written_keeps : (c : Csrs) (register : Register) (value : ℕ) → value < 2 ^ 64 → AreKeptInBounds c → AreKeptInBounds (written c register value)
written_keeps c Mstatus value fits h = record { fixed_bits = change_fixed kept_registers (values_of c) 0 (rewritten_status (masks_of status_fields) c.mstatus value) Mstatus h.fixed_bits refl (λ old. status_fixed c.mstatus value fits old); mpp = status_names c.mstatus value h.mpp; satp_mode = h.satp_mode; floors = h.floors }
written_keeps c Misa value fits h = h
written_keeps c Medeleg value fits h = record { fixed_bits = change_fixed kept_registers (values_of c) 1 (merged (0xB3FF) c.medeleg value) Medeleg h.fixed_bits refl (λ old. own (0xB3FF) c.medeleg value (omega arith) refl fits old); mpp = h.mpp; satp_mode = h.satp_mode; floors = h.floors }
written_keeps c Mideleg value fits h = record { fixed_bits = change_fixed kept_registers (values_of c) 2 (merged (supervisor_interrupts) c.mideleg value) Mideleg h.fixed_bits refl (λ old. own (supervisor_interrupts) c.mideleg value (omega arith) refl fits old); mpp = h.mpp; satp_mode = h.satp_mode; floors = h.floors }
written_keeps c Mie value fits h = record { fixed_bits = change_fixed kept_registers (values_of c) 3 (merged (interrupts) c.mie value) Mie h.fixed_bits refl (λ old. own (interrupts) c.mie value (omega arith) refl fits old); mpp = h.mpp; satp_mode = h.satp_mode; floors = h.floors }
written_keeps c Mtvec value fits h = record { fixed_bits = change_fixed kept_registers (values_of c) 4 (merged (but_bit 1) c.mtvec value) Mtvec h.fixed_bits refl (λ old. own (but_bit 1) c.mtvec value (omega arith) refl fits old); mpp = h.mpp; satp_mode = h.satp_mode; floors = h.floors }
written_keeps c Mcounteren value fits h = record { fixed_bits = change_fixed kept_registers (values_of c) 5 (merged (7) c.mcounteren value) Mcounteren h.fixed_bits refl (λ old. own (7) c.mcounteren value (omega arith) refl fits old); mpp = h.mpp; satp_mode = h.satp_mode; floors = h.floors }
written_keeps c Mscratch value fits h = record { fixed_bits = change_fixed kept_registers (values_of c) 6 (value) Mscratch h.fixed_bits refl (λ _. whole value fits); mpp = h.mpp; satp_mode = h.satp_mode; floors = h.floors }
written_keeps c Mepc value fits h = record { fixed_bits = change_fixed kept_registers (values_of c) 7 (merged (but_bit 0) c.mepc value) Mepc h.fixed_bits refl (λ old. own (but_bit 0) c.mepc value (omega arith) refl fits old); mpp = h.mpp; satp_mode = h.satp_mode; floors = h.floors }
written_keeps c Mcause value fits h = record { fixed_bits = change_fixed kept_registers (values_of c) 8 (value) Mcause h.fixed_bits refl (λ _. whole value fits); mpp = h.mpp; satp_mode = h.satp_mode; floors = h.floors }
written_keeps c Mtval value fits h = record { fixed_bits = change_fixed kept_registers (values_of c) 9 (value) Mtval h.fixed_bits refl (λ _. whole value fits); mpp = h.mpp; satp_mode = h.satp_mode; floors = h.floors }
written_keeps c Mip value fits h = h
written_keeps c Mcycle value fits h = record { fixed_bits = h.fixed_bits; mpp = h.mpp; satp_mode = h.satp_mode; floors = (fits, h.floors.1, h.floors.2) }
written_keeps c Minstret value fits h = record { fixed_bits = h.fixed_bits; mpp = h.mpp; satp_mode = h.satp_mode; floors = (h.floors.0, fits, h.floors.2) }
written_keeps c Mvendorid value fits h = h
written_keeps c Marchid value fits h = h
written_keeps c Mimpid value fits h = h
written_keeps c Mhartid value fits h = h
written_keeps c Mconfigptr value fits h = h
written_keeps c Sstatus value fits h = record { fixed_bits = change_fixed kept_registers (values_of c) 0 (merged (masks_of supervisor_fields) c.mstatus value) Mstatus h.fixed_bits refl (λ old. fixed_under (masks_of status_fields) (masks_of supervisor_fields) (row_of Mstatus).reset c.mstatus value (omega arith) refl fits old); mpp = sstatus_names c.mstatus value h.mpp; satp_mode = h.satp_mode; floors = h.floors }
written_keeps c Sie value fits h = record { fixed_bits = change_fixed kept_registers (values_of c) 3 (merged c.mideleg c.mie value) Mie h.fixed_bits refl (λ old. delegated c.mideleg c.mie value fits h.fixed_bits.1.1.0 old); mpp = h.mpp; satp_mode = h.satp_mode; floors = h.floors }
written_keeps c Stvec value fits h = record { fixed_bits = change_fixed kept_registers (values_of c) 10 (merged (but_bit 1) c.stvec value) Stvec h.fixed_bits refl (λ old. own (but_bit 1) c.stvec value (omega arith) refl fits old); mpp = h.mpp; satp_mode = h.satp_mode; floors = h.floors }
written_keeps c Scounteren value fits h = record { fixed_bits = change_fixed kept_registers (values_of c) 11 (merged (7) c.scounteren value) Scounteren h.fixed_bits refl (λ old. own (7) c.scounteren value (omega arith) refl fits old); mpp = h.mpp; satp_mode = h.satp_mode; floors = h.floors }
written_keeps c Sscratch value fits h = record { fixed_bits = change_fixed kept_registers (values_of c) 12 (value) Sscratch h.fixed_bits refl (λ _. whole value fits); mpp = h.mpp; satp_mode = h.satp_mode; floors = h.floors }
written_keeps c Sepc value fits h = record { fixed_bits = change_fixed kept_registers (values_of c) 13 (merged (but_bit 0) c.sepc value) Sepc h.fixed_bits refl (λ old. own (but_bit 0) c.sepc value (omega arith) refl fits old); mpp = h.mpp; satp_mode = h.satp_mode; floors = h.floors }
written_keeps c Scause value fits h = record { fixed_bits = change_fixed kept_registers (values_of c) 14 (value) Scause h.fixed_bits refl (λ _. whole value fits); mpp = h.mpp; satp_mode = h.satp_mode; floors = h.floors }
written_keeps c Stval value fits h = record { fixed_bits = change_fixed kept_registers (values_of c) 15 (value) Stval h.fixed_bits refl (λ _. whole value fits); mpp = h.mpp; satp_mode = h.satp_mode; floors = h.floors }
written_keeps c Sip value fits h = h
written_keeps c Satp value fits h = record { fixed_bits = change_fixed kept_registers (values_of c) 16 (if keeps_mode c.wide (field_of value MODE) then value else c.satp) Satp h.fixed_bits refl (λ old. satp_fixed c.wide c.satp value fits old); mpp = h.mpp; satp_mode = satp_mode c.wide c.satp value h.satp_mode; floors = h.floors }
written_keeps c Cycle value fits h = h
written_keeps c Time value fits h = h
written_keeps c Instret value fits h = h

-- a legal write leaves an MPP that names a mode
pub written_names : (c : Csrs) (register : Register) (value : ℕ) → NamesMode c.mstatus → NamesMode (written c register value).mstatus
written_names c Mstatus value h = status_names c.mstatus value h
written_names c Sstatus value h = sstatus_names c.mstatus value h
written_names c register value h = h

-- only the register's own value changes
pub written_only : (c : Csrs) (register : Register) (value : ℕ) → ChangesOnly register c (written c register value)
written_only c Mstatus value = refl
written_only c register value = refl

none_some : (register : Register) → ◌≡◌ {A = Option Register} None (Some register) → ⊥
none_some register e = cc

-- a register that is reached has the number
pub reached_named : (found : Option Register) (test : Register → Bool) (register : Register) → option_and_then (λ r. if test r then Some r else None) found ≡ Some register → found ≡ Some register
reached_named None test register e = absurd (none_some register e)
reached_named (Some r) test register e =
    ⊎_elim
    (λ (yes : test r ≡ true). sym (cond-true (test r) (Some r) None yes) ∙ e)
    (λ (no : test r ≡ false). absurd (none_some register (sym (cond-false (test r) (Some r) None no) ∙ e)))
    (cases_Bool (test r))
