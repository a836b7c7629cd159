-- Bytes that are only the beginning of a header, of a record or of an end (this project's own).
use Rattle.std.specs.Prelude.{ℕ, ◌≡◌, ◌<◌, ◌⊎◌, None, List, [], ◌∷◌, ◌++◌, length}
use Rattle.dt_record.specs.Spelling.{Version, One, Two}
use Rattle.dt_record.specs.Answers.{header_fault}
use Rattle.dt_record_bytes.specs.WideAnswer.{IsCut}
use Rattle.dt_short_bytes.specs.ShortForms.{IsUnfinished}

-- fewer bytes than a header has, and more make a header of them
abbrev pub IsCutHeader : List ℕ → Type 0
IsCutHeader bytes = (length bytes < 16) × (more : List ℕ) × (header_fault (bytes ++ more) ≡ None)

-- the bytes are only the beginning of what may be a record: in version 1 they are fewer than the kind of
-- their tag has, in version 2 they are a form once at least one more has come
abbrev pub IsCutRecord : Version → List ℕ → Type 0
IsCutRecord One bytes = IsCut bytes
IsCutRecord Two bytes = IsUnfinished bytes

-- the first byte is this one
abbrev pub HasTag : ℕ → List ℕ → Type 0
HasTag tag bytes = (rest : List ℕ) × (bytes ≡ tag ∷ rest)

-- the tag of an end, and fewer bytes than an end has
abbrev pub IsCutEnd : List ℕ → Type 0
IsCutEnd bytes = HasTag 255 bytes × (length bytes < 9)

-- no byte, or only the beginning of an end or of what may be a record
abbrev pub IsBegun : Version → List ℕ → Type 0
IsBegun version bytes = (bytes ≡ []) ⊎ (IsCutEnd bytes ⊎ IsCutRecord version bytes)
