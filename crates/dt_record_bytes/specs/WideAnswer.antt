use Rattle.std.specs.Prelude.{ℕ, ◌≡◌, ◌<◌, ◌⊎◌, ◌==◌, not, if◌then◌else◌, Option, None, Some, List, [], ◌∷◌, ◌++◌, length, drop, nat_lt, nat_le}
use Rattle.dt_record.specs.declared.records.Record.{Record}
use Rattle.dt_record.specs.declared.records.Body.{Body}
use Rattle.dt_record.specs.declared.records.Body.TheVariants.{Atomic}
use Rattle.dt_record.specs.Lawful.{Bound, bound, body_bounds, FitsRecord, IsLawful}
use Rattle.dt_record.specs.Tags.{tag_number}
use Rattle.dt_record.specs.Spelling.{retire_bytes, body_bytes, double, wide_bytes}
use Rattle.dt_record_bytes.specs.declared.decoded.Decoded.{Decoded}
use Rattle.dt_record_bytes.specs.declared.decoded.Decoded.TheVariants.{Got, Short, Bad}

-- What bytes are as a record of version 1: the one answer that there is to them (this project's own
-- format). Bytes begin with the spelling of a lawful record, or are too few for their kind, or are wrong.

-- the bytes are a lawful record's spelling, and then the rest
pub record IsSpelled (bytes : List ℕ) (r : Record) (rest : List ℕ) : Type 0 where
  pub fits : FitsRecord r
  pub lawful : IsLawful r
  pub spelled : bytes ≡ wide_bytes r ++ rest

-- no lawful record's spelling stands at the front
abbrev pub LacksRecord : List ℕ → Type 0
LacksRecord bytes = (r : Record) (rest : List ℕ) → IsSpelled bytes r rest → ⊥

-- how many bytes the spelling of a kind has, by its tag
abbrev pub wide_length : ℕ → Option ℕ
wide_length tag =
    if tag == 1 then Some 30
    else if tag == 2 then Some 38
    else if tag == 3 then Some 266
    else if tag == 4 then Some 147
    else if tag == 5 then Some 46
    else if tag == 6 then Some 38
    else if tag == 7 then Some 48
    else if tag == 8 then Some 92
    else if tag == 9 then Some 82
    else if tag == 10 then Some 10
    else None

-- the tag at the front, and how many bytes its kind has
pub record HasKind (bytes : List ℕ) (len : ℕ) : Type 0 where
  pub tag : ℕ
  pub after : List ℕ
  pub begins : bytes ≡ tag ∷ after
  pub len_is : wide_length tag ≡ Some len

-- there are no bytes, or fewer than the kind has
abbrev pub IsCut : List ℕ → Type 0
IsCut bytes = (bytes ≡ []) ⊎ ((len : ℕ) × HasKind bytes len × (length bytes < len))

-- Fields as they stand in bytes, whatever bounds they break. Only the byte for whether an atomic wrote
-- can be what no record has: it stands beside the record.

-- a body's spelling with this byte where an atomic says whether it wrote
abbrev pub body_bytes_with : ℕ → Body → List ℕ
body_bytes_with wrote_byte (Atomic retire paddr width wrote new) = retire_bytes retire ++ double paddr ++ width ∷ wrote_byte ∷ double new
body_bytes_with wrote_byte body = body_bytes body

unfoldable pub wide_bytes_with : ℕ → Record → List ℕ
wide_bytes_with wrote_byte r = tag_number r.body ∷ r.hart ∷ double r.stamp ++ body_bytes_with wrote_byte r.body

-- 0 is that an atomic wrote nothing; the other kinds have no such byte, and go with 0
abbrev pub IsWroteByte : ℕ → Body → Type 0
IsWroteByte wrote_byte (Atomic retire paddr width wrote new) = wrote ≡ not (wrote_byte == 0)
IsWroteByte wrote_byte body = wrote_byte ≡ 0

-- the bytes have these fields, and then the rest
pub record HasFields (bytes : List ℕ) (r : Record) (wrote_byte : ℕ) (rest : List ℕ) : Type 0 where
  pub fits : FitsRecord r
  pub wrote : IsWroteByte wrote_byte r.body
  pub spelled : bytes ≡ wide_bytes_with wrote_byte r ++ rest

-- a bound among others, in the order of their places
abbrev pub with_bound : Bound → List Bound → List Bound
with_bound b [] = b ∷ []
with_bound b (c ∷ cs) = if nat_lt c.place b.place then c ∷ with_bound b cs else b ∷ c ∷ cs

-- the bounds on the fields of a kind: those of the record, and that an atomic's byte is 0 or 1
abbrev pub body_bounds_with : ℕ → ℕ → Body → List Bound
body_bounds_with wrote_byte stamp (Atomic retire paddr width wrote new) =
    with_bound (bound 39 (nat_le wrote_byte 1)) (body_bounds stamp (Atomic retire paddr width wrote new))
body_bounds_with wrote_byte stamp body = body_bounds stamp body

abbrev pub bounds_with : ℕ → Record → List Bound
bounds_with wrote_byte r = bound 1 (nat_lt r.hart 8) ∷ body_bounds_with wrote_byte r.stamp r.body

-- the place of the first field that breaks its bound
abbrev pub first_broken : List Bound → Option ℕ
first_broken [] = None
first_broken (b ∷ bs) = if b.holds then first_broken bs else Some b.place

-- the tag is none of a record
pub record HasNoKind (bytes : List ℕ) : Type 0 where
  pub tag : ℕ
  pub after : List ℕ
  pub begins : bytes ≡ tag ∷ after
  pub unknown : wide_length tag ≡ None

-- the first field that breaks its bound stands at this place
pub record IsBroken (bytes : List ℕ) (place : ℕ) : Type 0 where
  pub fields : Record
  pub wrote_byte : ℕ
  pub rest : List ℕ
  pub has : HasFields bytes fields wrote_byte rest
  pub broken : first_broken (bounds_with wrote_byte fields) ≡ Some place

-- the answer to bytes
abbrev pub IsWideAnswer : List ℕ → Decoded → Type 0
IsWideAnswer bytes (Got event len) = IsSpelled bytes event (drop len bytes) × (len ≡ length (wide_bytes event))
IsWideAnswer bytes Short = IsCut bytes
IsWideAnswer bytes (Bad place) = ((place ≡ 0) × HasNoKind bytes) ⊎ IsBroken bytes place
