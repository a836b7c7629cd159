use Rattle.std.specs.Prelude.{◌≡◌, ℕ, ◌*◌, ◌%◌, ◌^◌, Bool, true, false, ◌⊎◌}
use Rattle.dt_alu.specs.Words.{signed_value, word_of}

-- a load or a store moves 1, 2, 4 or 8 bytes (Volume I, sections 2.6 and 5.3)
abbrev pub IsAccessWidth : ℕ → Type 0
IsAccessWidth width = (width ≡ 1) ⊎ (width ≡ 2) ⊎ (width ≡ 4) ⊎ (width ≡ 8)

-- the number that the low bytes of a word spell
abbrev pub low_bytes_of : ℕ → ℕ → ℕ
low_bytes_of width raw = raw % 2 ^ (8 * width)

-- sign extension: the 64-bit word with the signed value of the k-bit word n (Volume I, section 2.6)
abbrev pub sign_extended : ℕ → ℕ → ℕ
sign_extended k n = word_of 64 (signed_value k n)

-- the low bytes of a word, sign-extended or zero-extended to 64 bits (Volume I, sections 2.6 and 5.3)
unfoldable pub extend_value : ℕ → Bool → ℕ → ℕ
extend_value width true raw = sign_extended (8 * width) (low_bytes_of width raw)
extend_value width false raw = low_bytes_of width raw
