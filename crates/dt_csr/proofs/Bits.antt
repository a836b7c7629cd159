-- what a masked write and a field of a register do to single bits and to other fields
use Rattle.std.proofs.Common.{◌≡◌, ℕ, ◌+◌, ◌-◌, ◌*◌, ◌/◌, ◌%◌, ◌^◌, ◌<◌, ◌≤◌, sym, ◌∙◌, ap, arith, min, max, bit_and, pow_pos, pow_mono, nat_eq, if◌then◌else◌}
use Rattle.std.proofs.lemmas.Bool.Decides.{nat_tests}
use Rattle.std.specs.Int.{w64, bit_at, bit_not}
use Rattle.std.proofs.lemmas.Nat.{one_shl, and_mask, shl_whole, shl-shr, pow-add, and_le_r}
use Rattle.std.proofs.Math.Nat.{mod-eq_of_lt, mul-sub, mul_comm}
use Rattle.std.proofs.lemmas.Nat.{shl_below}
use Rattle.std.specs.Int.Bits.{and_self}
use Rattle.std.proofs.lemmas.Nat.Bits.{bit_at_and, bit_at_or, bit_at_not, bit_at-lt, same_from_bits_below, and_high, bit_at-zero}
use Rattle.dt_csr.specs.declared.fields.Field.{Field}
use Rattle.dt_csr.specs.Fields.{merged, mask_of, field_of, with_field}

-- the field that `(n >> low) & ((1 << width) - 1)` reads
pub field_read : (n low width : ℕ) → width < 64 → bit_and (n / 2 ^ low) (1 * 2 ^ width % 2 ^ 64 - 1) ≡ n / 2 ^ low % 2 ^ width
field_read n low width small = rw (one_shl width 64 small) (and_mask (n / 2 ^ low) width)

-- the mask that `((1 << width) - 1) << low` gives
pub field_mask : (low width : ℕ) → width < 64 → low + width ≤ 64 → (1 * 2 ^ width % 2 ^ 64 - 1) * 2 ^ low % 2 ^ 64 ≡ (2 ^ width - 1) * 2 ^ low
field_mask low width small inside = rw (one_shl width 64 small) (shl_whole (2 ^ width - 1) width low 64 (omega (arith, pow_pos width)) (omega arith))

-- a bit of a masked write is that of the new value under the mask, and else that of the old one
pub bit_at_merged : (mask old new i : ℕ) → mask < 2 ^ 64 → i < 64 → bit_at (merged mask old new) i ≡ max (min (bit_at old i) (1 - bit_at mask i)) (min (bit_at new i) (bit_at mask i))
bit_at_merged mask old new i small inside =
    let joined = bit_at_or (bit_and old (bit_not w64 mask)) (bit_and new mask) i in
    let kept = bit_at_and old (bit_not w64 mask) i in
    let taken = bit_at_and new mask i in
    let outside = bit_at_not w64 mask i small inside in
    cc

-- bits as numbers: a chosen bit under both masks
one_taken : (o n m k : ℕ) → o < 2 → n < 2 → m < 2 → k < 2 → min m k ≡ k → min (max (min o (1 - m)) (min n m)) k ≡ min n k
one_taken o n m k p q r s e = omega arith

one_kept : (o n m k : ℕ) → o < 2 → n < 2 → m < 2 → k < 2 → min m k ≡ 0 → min (max (min o (1 - m)) (min n m)) k ≡ min o k
one_kept o n m k p q r s e = omega arith

-- what a masked write leaves under a part of its mask is that part of the new value
pub merged_inside : (part mask old new : ℕ) → mask < 2 ^ 64 → part < 2 ^ 64 → bit_and mask part ≡ part → bit_and (merged mask old new) part ≡ bit_and new part
merged_inside part mask old new small fits inside =
    same_from_bits_below 64 _ _ (omega (arith, and_le_r (merged mask old new) part)) (omega (arith, and_le_r new part)) (λ i below.
    let here : min (bit_at mask i) (bit_at part i) ≡ bit_at part i = sym (bit_at_and mask part i) ∙ ap (λ n. bit_at n i) inside in
    bit_at_and (merged mask old new) part i
    ∙ ap (λ n. min n (bit_at part i)) (bit_at_merged mask old new i small below)
    ∙ one_taken (bit_at old i) (bit_at new i) (bit_at mask i) (bit_at part i) (bit_at-lt old i) (bit_at-lt new i) (bit_at-lt mask i) (bit_at-lt part i) here
    ∙ sym (bit_at_and new part i))

-- what a masked write leaves beside its mask is that part of the old value
pub merged_outside : (part mask old new : ℕ) → mask < 2 ^ 64 → part < 2 ^ 64 → bit_and mask part ≡ 0 → bit_and (merged mask old new) part ≡ bit_and old part
merged_outside part mask old new small fits outside =
    same_from_bits_below 64 _ _ (omega (arith, and_le_r (merged mask old new) part)) (omega (arith, and_le_r old part)) (λ i below.
    let here : min (bit_at mask i) (bit_at part i) ≡ 0 = sym (bit_at_and mask part i) ∙ ap (λ n. bit_at n i) outside ∙ bit_at-zero i in
    bit_at_and (merged mask old new) part i
    ∙ ap (λ n. min n (bit_at part i)) (bit_at_merged mask old new i small below)
    ∙ one_kept (bit_at old i) (bit_at new i) (bit_at mask i) (bit_at part i) (bit_at-lt old i) (bit_at-lt new i) (bit_at-lt mask i) (bit_at-lt part i) here
    ∙ sym (bit_at_and old part i))

-- the bits of a field, where they stand in the register
pub field_in_place : (n low width : ℕ) → bit_and n ((2 ^ width - 1) * 2 ^ low) ≡ n / 2 ^ low % 2 ^ width * 2 ^ low
field_in_place n low width =
    let whole : (2 ^ width - 1) * 2 ^ low ≡ 2 ^ (width + low) - 2 ^ low =
    mul_comm (2 ^ width - 1) (2 ^ low) ∙ mul-sub (2 ^ low) (2 ^ width) 1 ∙ omega (arith, pow-add 2 width low) in
    ap (λ m. bit_and n m) whole ∙ and_high n width low

-- a field is told by its bits in place
field_told : (a b low : ℕ) → a * 2 ^ low ≡ b * 2 ^ low → a ≡ b
field_told a b low e = sym (shl-shr a low) ∙ ap (λ n. n / 2 ^ low) e ∙ shl-shr b low

-- registers that agree on a field's bits have the same field
pub same_field : (a b : ℕ) (field : Field) → bit_and a (mask_of field) ≡ bit_and b (mask_of field) → field_of a field ≡ field_of b field
same_field a b field e =
    field_told (field_of a field) (field_of b field) field.low (sym (field_in_place a field.low field.width) ∙ e ∙ field_in_place b field.low field.width)

-- a field's mask is a number of 64 bits
pub mask_fits : (field : Field) → field.low + field.width ≤ 64 → mask_of field < 2 ^ 64
mask_fits field inside =
    let below : mask_of field < 2 ^ (field.width + field.low) = shl_below (2 ^ field.width - 1) field.width field.low (omega (arith, pow_pos field.width)) in
    let most : 2 ^ (field.width + field.low) ≤ 2 ^ 64 = pow_mono {i = field.width + field.low} {j = 64} (omega arith) in
    omega arith

-- a field that was put is read back
pub field_put : (n : ℕ) (field : Field) (v : ℕ) → field.low + field.width ≤ 64 → v < 2 ^ field.width → field_of (with_field n field v) field ≡ v
field_put n field v inside fits =
    let fits_mask = mask_fits field inside in
    same_field (with_field n field v) (v * 2 ^ field.low) field (merged_inside (mask_of field) (mask_of field) n (v * 2 ^ field.low) fits_mask fits_mask (and_self (mask_of field)))
    ∙ ap (λ m. m % 2 ^ field.width) (shl-shr v field.low) ∙ mod-eq_of_lt fits

-- a field that shares no bit with the one that is put stays
pub field_apart : (n : ℕ) (field other : Field) (v : ℕ) → field.low + field.width ≤ 64 → other.low + other.width ≤ 64 → bit_and (mask_of field) (mask_of other) ≡ 0 → field_of (with_field n field v) other ≡ field_of n other
field_apart n field other v inside within apart =
    same_field (with_field n field v) n other (merged_outside (mask_of other) (mask_of field) n (v * 2 ^ field.low) (mask_fits field inside) (mask_fits other within) apart)

-- the bit of a masked write, as a choice
chosen_bit : (o n m : ℕ) → o < 2 → n < 2 → m < 2 → max (min o (1 - m)) (min n m) ≡ (if nat_eq m 1 then n else o)
chosen_bit o n m p q r = grind (arith, nat_tests)

pub masked_bit : (mask old new i : ℕ) → mask < 2 ^ 64 → i < 64 → bit_at (merged mask old new) i ≡ (if nat_eq (bit_at mask i) 1 then bit_at new i else bit_at old i)
masked_bit mask old new i small inside =
    bit_at_merged mask old new i small inside
    ∙ chosen_bit (bit_at old i) (bit_at new i) (bit_at mask i) (bit_at-lt old i) (bit_at-lt new i) (bit_at-lt mask i)
