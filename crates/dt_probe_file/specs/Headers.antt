use Rattle.std.specs.Prelude.{ℕ, ◌≡◌, ◌≤◌, ◌==◌, ◌||◌, Bool, if◌then◌else◌, Some, List, [], ◌∷◌, ◌++◌, length, drop, nat_lt, slice_index}
use Rattle.dt_record.specs.ProbeFile.{header_bytes}
use Rattle.dt_record.specs.Answers.{starts_with_any, header_fault}
use Rattle.dt_probe_file.specs.Begun.{IsCutHeader}
use Rattle.dt_probe_file.specs.declared.headers.Heading.{Heading}
use Rattle.dt_probe_file.specs.declared.headers.Heading.TheVariants.{Whole, Begun, Wrong}
use Rattle.dt_record.specs.Versions.{version_of}

-- Headers, as far as they are there (this project's own).

-- one of the headers that there are, whose bytes but three every other has too
abbrev pub plain_header : List ℕ
plain_header = 83 ∷ 77 ∷ 80 ∷ 68 ∷ 73 ∷ 70 ∷ 70 ∷ 0 ∷ 1 ∷ 0 ∷ 1 ∷ 0 ∷ 0 ∷ 0 ∷ 0 ∷ 0 ∷ []

-- whether a header may have this byte at this place
abbrev pub header_byte : ℕ → ℕ → Bool
header_byte place b =
    if place == 8 then (b == 1) || (b == 2)
    else if place == 10 then starts_with_any (1 ∷ 2 ∷ 3 ∷ 4 ∷ 5 ∷ 6 ∷ 7 ∷ 8 ∷ []) (b ∷ [])
    else if place == 11 then starts_with_any (0 ∷ 1 ∷ []) (b ∷ [])
    else b == slice_index plain_header place

-- the place of the field that a place of a header belongs to
abbrev pub field_start : ℕ → ℕ
field_start place =
    if nat_lt place 8 then 0
    else if nat_lt place 10 then 8
    else if nat_lt place 11 then 10
    else if nat_lt place 12 then 11
    else 12

-- a whole header, the beginning of one, or what is neither, whatever follows: with the place of the field that isn't whole or wrong
abbrev pub IsHeading : List ℕ → Heading → Type 0
IsHeading bytes (Whole version harts wide) =
    (bytes ≡ header_bytes (version_of version) harts wide ++ drop 16 bytes) × (1 ≤ harts) × (harts ≤ 8) × (16 ≤ length bytes)
IsHeading bytes (Begun field) = (header_fault bytes ≡ Some field) × IsCutHeader bytes
IsHeading bytes (Wrong field) = (more : List ℕ) → header_fault (bytes ++ more) ≡ Some field
