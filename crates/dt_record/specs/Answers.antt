use Rattle.std.specs.Prelude.{ℕ, ◌≡◌, ◌<◌, ◌≤◌, ◌+◌, ◌⊎◌, ◌||◌, Bool, not, if◌then◌else◌, Option, Some, option_map, List, [], ◌∷◌, ◌++◌, length, take, drop, find, codes}
use Rattle.std.specs.List.{list_any}
use Rattle.std.specs.Str.{bytes_eq}
use Rattle.dt_record.specs.declared.limits.TheConstants.{HART_LIMIT, RECORD_LIMIT, WRITE_LIMIT}
use Rattle.dt_record.specs.declared.records.Record.{Record}
use Rattle.dt_record.specs.declared.writes.What.{What}
use Rattle.dt_record.specs.declared.writes.What.TheVariants.{Records, Writes}
use Rattle.dt_record.specs.declared.streams.Next.{Next}
use Rattle.dt_record.specs.declared.streams.Next.TheVariants.{Header, Event, End, Malformed, Limit, ReadFault, OutOfMemory}
use Rattle.dt_record.specs.Lawful.{Bound, bound}
use Rattle.dt_record.specs.Spelling.{Version, half, word, record_bytes, end_bytes}
use Rattle.dt_record.specs.ProbeFile.{header_bytes, no_stamps, stamped, IsNext}
use Rattle.dt_record.specs.Writes.{writes_memory}

-- The answers that the bytes of a file give (this project's own): its header, its records, and its
-- end; or, up to the first fault or limit, as many of these as come before it.

-- whether there is a first byte and it is one of these
abbrev pub starts_with_any : List ℕ → List ℕ → Bool
starts_with_any wanted bytes = list_any (λ b. bytes_eq (take 1 bytes) (b ∷ [])) wanted

-- the fields of a header, each with its place and whether it is whole and keeps its bound
abbrev pub header_bounds : List ℕ → List Bound
header_bounds bytes =
    bound 0 (bytes_eq (take 8 bytes) (codes "SMPDIFF" ++ 0 ∷ []))
    ∷ bound 8 (bytes_eq (take 2 (drop 8 bytes)) (half 1) || bytes_eq (take 2 (drop 8 bytes)) (half 2))
    ∷ bound 10 (starts_with_any (1 ∷ 2 ∷ 3 ∷ 4 ∷ 5 ∷ 6 ∷ 7 ∷ 8 ∷ []) (drop 10 bytes))
    ∷ bound 11 (starts_with_any (0 ∷ 1 ∷ []) (drop 11 bytes))
    ∷ bound 12 (bytes_eq (take 4 (drop 12 bytes)) (word 0)) ∷ []

-- the place of the first field of a header that isn't whole or breaks its bound
abbrev pub header_fault : List ℕ → Option ℕ
header_fault bytes = option_map (λ b. b.place) (find (λ b. not b.holds) (header_bounds bytes))

-- What was read of a file before some place: the header, the stamp of each hart's last record, how
-- many records came and how many of them write memory, and the number of bytes.
pub record Reading : Type 0 where
  pub version : Version
  pub harts : ℕ
  pub last : ℕ → ℕ
  pub events : ℕ
  pub writes : ℕ
  pub at : ℕ

-- after the header
abbrev pub opened : Version → ℕ → Reading
opened version harts = record { version = version; harts = harts; last = no_stamps; events = 0; writes = 0; at = 16 }

abbrev pub spelled_next : Reading → Record → List ℕ
spelled_next s r = record_bytes s.version (s.last r.hart) r

-- how many writes there are after a record
abbrev pub writes_with : Reading → Record → ℕ
writes_with s r = s.writes + (if writes_memory r then 1 else 0)

-- after one more record
abbrev pub after_record : Reading → Record → Reading
after_record s r = record {
  version = s.version;
  harts = s.harts;
  last = stamped s.last r;
  events = s.events + 1;
  writes = writes_with s r;
  at = s.at + length (spelled_next s r);
}

-- the bytes go on with this record, which may stand there, and then with the rest
pub record GoesOn (s : Reading) (bytes : List ℕ) (r : Record) (rest : List ℕ) : Type 0 where
  pub spelled : bytes ≡ spelled_next s r ++ rest
  pub next : IsNext s.harts s.last r

-- a file has room for one more record, which it has to have for this one to be a record of it
pub record HasRoom (s : Reading) (r : Record) : Type 0 where
  pub few_records : s.events < RECORD_LIMIT
  pub few_writes : writes_with s r ≤ WRITE_LIMIT

-- neither a record that may stand there nor the end of so many records comes
pub record IsBroken (s : Reading) (bytes : List ℕ) : Type 0 where
  pub no_record : (r : Record) (rest : List ℕ) → GoesOn s bytes r rest → ⊥
  pub no_end : (rest : List ℕ) → bytes ≡ end_bytes s.events ++ rest → ⊥

-- the file is malformed at this offset: at the first byte of what is wrong, or behind the end
abbrev pub IsMalformed : Reading → List ℕ → ℕ → Type 0
IsMalformed s bytes offset =
    ((offset ≡ s.at) × IsBroken s bytes)
    ⊎ ((offset ≡ s.at + 9) × (b : ℕ) × (rest : List ℕ) × (bytes ≡ end_bytes s.events ++ b ∷ rest))

-- what there is too much of with one more record, and its number: records come before writes
abbrev pub IsTooMany : Reading → Record → What → ℕ → Type 0
IsTooMany s r Records number = (RECORD_LIMIT ≤ s.events) × (number ≡ RECORD_LIMIT + 1)
IsTooMany s r Writes number = (s.events < RECORD_LIMIT) × (WRITE_LIMIT < writes_with s r) × (number ≡ WRITE_LIMIT + 1)

abbrev pub IsLimit : Reading → List ℕ → What → ℕ → Type 0
IsLimit s bytes what number = (r : Record) × (rest : List ℕ) × GoesOn s bytes r rest × IsTooMany s r what number

-- the answers that the bytes behind a header or a record give
abbrev pub AreAnswersAfter : Reading → List ℕ → List Next → Type 0
AreAnswersAfter s bytes [] = ⊥
AreAnswersAfter s bytes (Header harts wide ∷ more) = ⊥
AreAnswersAfter s bytes (Event r ∷ more) =
    (rest : List ℕ) × GoesOn s bytes r rest × HasRoom s r × AreAnswersAfter (after_record s r) rest more
AreAnswersAfter s bytes (End count ∷ more) = (more ≡ []) × (count ≡ s.events) × (bytes ≡ end_bytes s.events)
AreAnswersAfter s bytes (Malformed offset ∷ more) = (more ≡ []) × IsMalformed s bytes offset
AreAnswersAfter s bytes (Limit what number ∷ more) = (more ≡ []) × IsLimit s bytes what number
AreAnswersAfter s bytes (ReadFault ∷ more) = ⊥
AreAnswersAfter s bytes (OutOfMemory ∷ more) = ⊥

-- the bytes begin with this header, and the bytes behind it give these answers
pub record AreOpened (bytes : List ℕ) (version : Version) (harts : ℕ) (wide : Bool) (more : List Next) : Type 0 where
  pub some_hart : 1 ≤ harts
  pub few_harts : harts ≤ HART_LIMIT
  pub rest : List ℕ
  pub spelled : bytes ≡ header_bytes version harts wide ++ rest
  pub after : AreAnswersAfter (opened version harts) rest more

-- the answers that the bytes of a file give
abbrev pub AreAnswers : List ℕ → List Next → Type 0
AreAnswers bytes [] = ⊥
AreAnswers bytes (Header harts wide ∷ more) = (version : Version) × AreOpened bytes version harts wide more
AreAnswers bytes (Malformed offset ∷ more) = (more ≡ []) × (header_fault bytes ≡ Some offset)
AreAnswers bytes (Event r ∷ more) = ⊥
AreAnswers bytes (End count ∷ more) = ⊥
AreAnswers bytes (Limit what number ∷ more) = ⊥
AreAnswers bytes (ReadFault ∷ more) = ⊥
AreAnswers bytes (OutOfMemory ∷ more) = ⊥
