use Rattle.std.specs.Prelude.{ℕ, ◌≡◌, ◌+◌, ◌-◌, ◌*◌, ◌/◌, ◌%◌, ◌^◌, List, [], ◌∷◌, bit_and, bit_or}
use Rattle.std.specs.Int.{w64, bit_not}
use Rattle.dt_csr.specs.declared.fields.Field.{Field}

-- the old value with the bits under the mask taken from the new one (this project's own)
abbrev pub merged : ℕ → ℕ → ℕ → ℕ
merged mask old new = bit_or (bit_and old (bit_not w64 mask)) (bit_and new mask)

-- two values that have the same bits outside the mask (this project's own)
abbrev pub IsSameOutside : ℕ → ℕ → ℕ → Type 0
IsSameOutside mask old new = bit_and new (bit_not w64 mask) ≡ bit_and old (bit_not w64 mask)

-- the bits of a register that a field has (this project's own)
abbrev pub mask_of : Field → ℕ
mask_of field = (2 ^ field.width - 1) * 2 ^ field.low

-- the bits that some fields have, no two of which share a bit (this project's own)
abbrev pub masks_of : List Field → ℕ
masks_of [] = 0
masks_of (field ∷ fields) = mask_of field + masks_of fields

-- the value of a field in a register (this project's own)
abbrev pub field_of : ℕ → Field → ℕ
field_of register field = register / 2 ^ field.low % 2 ^ field.width

-- the register with a value in the field, and every other bit as it was (this project's own)
abbrev pub with_field : ℕ → Field → ℕ → ℕ
with_field register field value = merged (mask_of field) register (value * 2 ^ field.low)
