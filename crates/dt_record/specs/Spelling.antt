use Rattle.std.specs.Prelude.{ℕ, ◌+◌, ◌-◌, ◌*◌, ◌/◌, ◌%◌, ◌==◌, Bool, if◌then◌else◌, List, [], ◌∷◌, ◌++◌, length, take, nat_lt, zero, suc}
use Rattle.std.specs.Int.{to_le_bytes, w16, w32, w64}
use Rattle.std.specs.List.{flat_map}
use Rattle.dt_record.specs.declared.records.Record.{Record}
use Rattle.dt_record.specs.declared.records.Retire.{Retire}
use Rattle.dt_record.specs.declared.records.Body.{Body}
use Rattle.dt_record.specs.declared.records.Body.TheVariants.{Commit, Trap, Regs, Csrs, Load, Store, Atomic, Drain, Refill, Beat}
use Rattle.dt_record.specs.Tags.{tag_number}

-- The two versions of the probe file. This project's own format.
pub data Version : Type 0 where
  One : Version
  Two : Version

-- a number in two, four or eight bytes, the low byte first
unfoldable pub half : ℕ → List ℕ
half n = to_le_bytes w16 n

unfoldable pub word : ℕ → List ℕ
word n = to_le_bytes w32 n

unfoldable pub double : ℕ → List ℕ
double n = to_le_bytes w64 n

-- a yes or no in one byte
abbrev pub flag : Bool → ℕ
flag b = if b then 1 else 0

abbrev pub retire_bytes : Retire → List ℕ
retire_bytes r = double r.pc ++ word r.bits ++ double r.value

-- Version 1: each field in its full width.
abbrev pub body_bytes : Body → List ℕ
body_bytes (Commit retire) = retire_bytes retire
body_bytes (Trap pc bits cause tval) = double pc ++ word bits ++ double cause ++ double tval
body_bytes (Regs pc x) = double pc ++ flat_map double x
body_bytes (Csrs mode v) = mode ∷ flat_map double v
body_bytes (Load retire at paddr) = retire_bytes retire ++ double at ++ double paddr
body_bytes (Store pc bits paddr value) = double pc ++ word bits ++ double paddr ++ double value
body_bytes (Atomic retire paddr width wrote new) = retire_bytes retire ++ double paddr ++ width ∷ flag wrote ∷ double new
body_bytes (Drain line mask count bytes) = double line ++ double mask ++ half count ++ bytes
body_bytes (Refill line bytes) = double line ++ bytes
body_bytes Beat = []

-- the tag, the hart, the stamp, and then the fields of the kind
unfoldable pub wide_bytes : Record → List ℕ
wide_bytes r = tag_number r.body ∷ r.hart ∷ double r.stamp ++ body_bytes r.body

-- Version 2: numbers in groups of seven bits, and no byte for a number that is 0.

-- groups of seven bits, the lowest first, in at most so many bytes after the first; bit 7 of a byte says that another follows
abbrev pub varint_within : ℕ → ℕ → List ℕ
varint_within zero n = n ∷ []
varint_within (suc more) n = if nat_lt n 128 then n ∷ [] else (128 + n % 128) ∷ varint_within more (n / 128)

-- a number below 2 ^ 64
unfoldable pub varint : ℕ → List ℕ
varint n = varint_within 9 n

-- the number fields of a kind, in the order of version 1
abbrev pub number_fields : Body → List ℕ
number_fields (Commit retire) = retire.pc ∷ retire.bits ∷ retire.value ∷ []
number_fields (Trap pc bits cause tval) = pc ∷ bits ∷ cause ∷ tval ∷ []
number_fields (Regs pc x) = pc ∷ x
number_fields (Csrs mode v) = mode ∷ v
number_fields (Load retire at paddr) = retire.pc ∷ retire.bits ∷ retire.value ∷ at ∷ paddr ∷ []
number_fields (Store pc bits paddr value) = pc ∷ bits ∷ paddr ∷ value ∷ []
number_fields (Atomic retire paddr width wrote new) =
    retire.pc ∷ retire.bits ∷ retire.value ∷ paddr ∷ width ∷ flag wrote ∷ new ∷ []
number_fields (Drain line mask count bytes) = line ∷ mask ∷ count ∷ []
number_fields (Refill line bytes) = line ∷ []
number_fields Beat = []

-- bit i is set exactly where number i isn't 0
abbrev pub presence : List ℕ → ℕ
presence [] = 0
presence (n ∷ ns) = (if n == 0 then 0 else 1) + 2 * presence ns

-- one byte for each eight fields or part of eight
abbrev pub presence_bytes : List ℕ → List ℕ
presence_bytes fields = take ((length fields + 7) / 8) (word (presence fields))

-- a field that is 0 has no bytes
abbrev pub present_bytes : ℕ → List ℕ
present_bytes n = if n == 0 then [] else varint n

-- the bytes whose mask bit is set
abbrev pub masked_bytes : ℕ → List ℕ → List ℕ
masked_bytes mask [] = []
masked_bytes mask (b ∷ bs) = (if mask % 2 == 1 then b ∷ [] else []) ++ masked_bytes (mask / 2) bs

-- the bytes of a line that version 2 spells
abbrev pub line_bytes : Body → List ℕ
line_bytes (Drain line mask count bytes) = masked_bytes mask bytes
line_bytes (Refill line bytes) = bytes
line_bytes _ = []

-- after a record of the same hart with the stamp last
unfoldable pub short_bytes : ℕ → Record → List ℕ
short_bytes last r = tag_number r.body ∷ r.hart ∷ varint (r.stamp - last)
    ++ presence_bytes (number_fields r.body) ++ flat_map present_bytes (number_fields r.body) ++ line_bytes r.body

-- the one spelling of a record in a version, where last is the stamp of its hart's last record, or 0
abbrev pub record_bytes : Version → ℕ → Record → List ℕ
record_bytes One last r = wide_bytes r
record_bytes Two last r = short_bytes last r

-- the end of a file that holds so many records
unfoldable pub end_bytes : ℕ → List ℕ
end_bytes count = 255 ∷ double count
