use Rattle.std.specs.Prelude.{ℕ, ◌≡◌, ◌<◌, ◌≤◌, ◌^◌, List, ◌∷◌, ◌++◌, length, take, slice_index, count_ones}
use Rattle.std.specs.List.{flat_map}
use Rattle.dt_record.specs.declared.records.Record.{Record}
use Rattle.dt_record.specs.Lawful.{FitsRecord, FitsList, IsLawful}
use Rattle.dt_record.specs.Kinds.{kind_number}
use Rattle.dt_record.specs.Spelling.{varint, presence_bytes, present_bytes, short_bytes}
use Rattle.dt_record.specs.declared.kinds.Kind.{Kind}
use Rattle.dt_record.specs.declared.kinds.Kind.TheVariants as kinds

-- What version 2 of the probe file takes for a record while it reads: the shape of a spelling,
-- whatever its numbers are. This project's own format.

-- how many number fields records of a kind have
abbrev pub field_count : Kind → ℕ
field_count kinds.Commit = 3
field_count kinds.Trap = 4
field_count kinds.Regs = 32
field_count kinds.Csrs = 18
field_count kinds.Load = 5
field_count kinds.Store = 4
field_count kinds.Atomic = 7
field_count kinds.Drain = 3
field_count kinds.Refill = 1
field_count kinds.Beat = 0

-- how many bytes of a line come after these numbers: of a drain those whose bit is set in its mask, its second number
abbrev pub line_count : Kind → List ℕ → ℕ
line_count kinds.Commit numbers = 0
line_count kinds.Trap numbers = 0
line_count kinds.Regs numbers = 0
line_count kinds.Csrs numbers = 0
line_count kinds.Load numbers = 0
line_count kinds.Store numbers = 0
line_count kinds.Atomic numbers = 0
line_count kinds.Drain numbers = count_ones (slice_index numbers 1)
line_count kinds.Refill numbers = 64
line_count kinds.Beat numbers = 0

-- what a form says: the kind, the hart, the stamp minus the last one, the number fields and the bytes of the line
pub record Form : Type 0 where
  pub kind : Kind
  pub hart : ℕ
  pub later : ℕ
  pub numbers : List ℕ
  pub line : List ℕ

abbrev pub form_bytes : Form → List ℕ
form_bytes f = kind_number f.kind ∷ f.hart ∷ varint f.later ++ presence_bytes f.numbers ++ flat_map present_bytes f.numbers ++ f.line

-- each number is below 2 ^ 64, whatever its field is, and the lists have their lengths
pub record FitsForm (f : Form) : Type 0 where
  pub hart : f.hart < 2 ^ 8
  pub later : f.later < 2 ^ 64
  pub numbers : FitsList (field_count f.kind) (2 ^ 64) f.numbers
  pub line : FitsList (line_count f.kind f.numbers) (2 ^ 8) f.line

abbrev pub IsForm : List ℕ → Type 0
IsForm bytes = (f : Form) × FitsForm f × (bytes ≡ form_bytes f)

-- the bytes, or more of them, are a form
abbrev pub IsFormPrefix : List ℕ → Type 0
IsFormPrefix bytes = (more : List ℕ) × IsForm (bytes ++ more)

-- the bytes are a form once at least one more has come
abbrev pub IsUnfinished : List ℕ → Type 0
IsUnfinished bytes = (next : ℕ) × (more : List ℕ) × IsForm (bytes ++ next ∷ more)

-- a form stands at the front
abbrev pub StartsWithForm : List ℕ → Type 0
StartsWithForm bytes = (text : List ℕ) × (rest : List ℕ) × IsForm text × (bytes ≡ text ++ rest)

-- the length of the longest prefix of the bytes that is a prefix of a form
pub record IsLongest (bytes : List ℕ) (at : ℕ) : Type 0 where
  pub within : at ≤ length bytes
  pub is_prefix : IsFormPrefix (take at bytes)
  pub longest : (n : ℕ) → n ≤ length bytes → IsFormPrefix (take n bytes) → n ≤ at

-- a lawful record that may follow one of its hart with the stamp last
pub record MayFollow (last : ℕ) (r : Record) : Type 0 where
  pub fits : FitsRecord r
  pub lawful : IsLawful r
  pub stamp : last ≤ r.stamp

-- the bytes begin with the spelling of a record, and then come the rest
pub record StartsWith (last : ℕ) (bytes : List ℕ) (r : Record) (rest : List ℕ) : Type 0 where
  pub follows : MayFollow last r
  pub spelled : bytes ≡ short_bytes last r ++ rest

-- a record at the front, whose spelling takes so many bytes
abbrev pub IsGot : ℕ → List ℕ → Record → ℕ → Type 0
IsGot last bytes r len = (len ≡ length (short_bytes last r)) × (rest : List ℕ) × StartsWith last bytes r rest

-- neither a record stands at the front, nor are the bytes the beginning of a form: where a whole form
-- stands there the place is 0, and else it is where the bytes stop being a prefix of a form
pub record IsBad (last : ℕ) (bytes : List ℕ) (at : ℕ) : Type 0 where
  pub no_record : (r : Record) (rest : List ℕ) → StartsWith last bytes r rest → ⊥
  pub not_unfinished : IsUnfinished bytes → ⊥
  pub at_form : StartsWithForm bytes → at ≡ 0
  pub at_prefix : (StartsWithForm bytes → ⊥) → IsLongest bytes at
