-- The answers that the bytes of a file give, computed. One record is proposed at the front of bytes, and it stands there or
-- none does. The law `one_list` says that these are the answers of the grammar (this project's own).
use Rattle.std.specs.Prelude.{ℕ, zero, suc, ◌+◌, ◌^◌, ◌==◌, ◌&&◌, Bool, true, not, if◌then◌else◌, Option, None, Some, List, [], ◌∷◌, ◌++◌, length, take, drop, nat_lt, nat_le, slice_index}
use Rattle.std.specs.Str.{bytes_eq}
use Rattle.dt_record.specs.declared.limits.TheConstants.{RECORD_LIMIT, WRITE_LIMIT}
use Rattle.dt_record.specs.declared.records.Record.{Record}
use Rattle.dt_record.specs.declared.records.Retire.{Retire}
use Rattle.dt_record.specs.declared.records.Body.{Body}
use Rattle.dt_record.specs.declared.records.Body.TheVariants.{Commit, Trap, Regs, Csrs, Load, Store, Atomic, Drain, Refill, Beat}
use Rattle.dt_record.specs.declared.writes.What.TheVariants.{Records, Writes}
use Rattle.dt_record.specs.declared.streams.Next.{Next}
use Rattle.dt_record.specs.declared.streams.Next.TheVariants.{Header, Event, End, Malformed, Limit}
use Rattle.dt_record.specs.Lawful.{is_lawful}
use Rattle.dt_record.specs.Spelling.{Version, One, Two, end_bytes}
use Rattle.dt_record.specs.Answers.{Reading, header_fault, opened, after_record, spelled_next, writes_with}
use Rattle.dt_record_bytes.specs.WideReading.{Proposal, wide_proposal}
use Rattle.dt_short_bytes.specs.ShortFronts.{short_proposal}

-- ---- whether each number fits its field

abbrev pub are_below : ℕ → List ℕ → Bool
are_below bound [] = true
are_below bound (x ∷ xs) = nat_lt x bound && are_below bound xs

abbrev pub fit_list : ℕ → ℕ → List ℕ → Bool
fit_list count bound xs = (length xs == count) && are_below bound xs

abbrev pub fits_retire : Retire → Bool
fits_retire r = nat_lt r.pc (2 ^ 64) && (nat_lt r.bits (2 ^ 32) && nat_lt r.value (2 ^ 64))

abbrev pub fits_body : Body → Bool
fits_body (Commit retire) = fits_retire retire
fits_body (Trap pc bits cause tval) = nat_lt pc (2 ^ 64) && (nat_lt bits (2 ^ 32) && (nat_lt cause (2 ^ 64) && nat_lt tval (2 ^ 64)))
fits_body (Regs pc x) = nat_lt pc (2 ^ 64) && fit_list 31 (2 ^ 64) x
fits_body (Csrs mode v) = nat_lt mode (2 ^ 8) && fit_list 17 (2 ^ 64) v
fits_body (Load retire at paddr) = fits_retire retire && (nat_lt at (2 ^ 64) && nat_lt paddr (2 ^ 64))
fits_body (Store pc bits paddr value) = nat_lt pc (2 ^ 64) && (nat_lt bits (2 ^ 32) && (nat_lt paddr (2 ^ 64) && nat_lt value (2 ^ 64)))
fits_body (Atomic retire paddr width wrote new) =
    fits_retire retire && (nat_lt paddr (2 ^ 64) && (nat_lt width (2 ^ 8) && nat_lt new (2 ^ 64)))
fits_body (Drain line mask count bytes) =
    nat_lt line (2 ^ 64) && (nat_lt mask (2 ^ 64) && (nat_lt count (2 ^ 16) && fit_list 64 (2 ^ 8) bytes))
fits_body (Refill line bytes) = nat_lt line (2 ^ 64) && fit_list 64 (2 ^ 8) bytes
fits_body Beat = true

abbrev pub fits_record : Record → Bool
fits_record r = nat_lt r.stamp (2 ^ 64) && (nat_lt r.hart (2 ^ 8) && fits_body r.body)

-- ---- the record at the front

-- the only record that may stand at the front of bytes, and what is behind it
unfoldable pub proposed : Version → (ℕ → ℕ) → List ℕ → Proposal
proposed One last bytes = wide_proposal bytes
proposed Two last bytes = short_proposal (last (slice_index bytes 1)) bytes

abbrev pub front : Reading → List ℕ → Proposal
front s bytes = proposed s.version s.last bytes

-- whether the bytes go on with this record and then with the rest
unfoldable pub goes_on : Reading → List ℕ → Record → List ℕ → Bool
goes_on s bytes r rest =
    fits_record r
    && (is_lawful r && (nat_lt r.hart s.harts && (nat_le (s.last r.hart) r.stamp && bytes_eq bytes (spelled_next s r ++ rest))))

-- ---- the answers

-- to bytes that go on with no record
unfoldable pub last_answers : Reading → List ℕ → List Next
last_answers s bytes =
    if bytes_eq bytes (end_bytes s.events) then End s.events ∷ []
    else if bytes_eq (take 9 bytes) (end_bytes s.events) then Malformed (s.at + 9) ∷ []
    else Malformed s.at ∷ []

-- to bytes that go on with a record, behind which these come
unfoldable pub record_answers : Reading → Record → List Next → List Next
record_answers s r later =
    if nat_le RECORD_LIMIT s.events then Limit Records (RECORD_LIMIT + 1) ∷ []
    else if nat_lt WRITE_LIMIT (writes_with s r) then Limit Writes (WRITE_LIMIT + 1) ∷ []
    else Event r ∷ later

-- with at most so many records
unfoldable pub answers_within : ℕ → Reading → List ℕ → List Next
answers_within zero s bytes = last_answers s bytes
answers_within (suc most) s bytes =
    if goes_on s bytes (front s bytes).0 (front s bytes).1
    then record_answers s (front s bytes).0 (answers_within most (after_record s (front s bytes).0) (front s bytes).1)
    else last_answers s bytes

-- to the bytes behind a header or a record
unfoldable pub answers_after : Reading → List ℕ → List Next
answers_after s bytes = answers_within (length bytes) s bytes

-- what a header says
abbrev pub version_in : List ℕ → Version
version_in bytes = if slice_index bytes 8 == 1 then One else Two

abbrev pub harts_in : List ℕ → ℕ
harts_in bytes = slice_index bytes 10

abbrev pub wide_in : List ℕ → Bool
wide_in bytes = not (slice_index bytes 11 == 0)

abbrev pub answers_by : Option ℕ → List ℕ → List Next
answers_by (Some offset) bytes = Malformed offset ∷ []
answers_by None bytes = Header (harts_in bytes) (wide_in bytes) ∷ answers_after (opened (version_in bytes) (harts_in bytes)) (drop 16 bytes)

-- to the bytes of a file
unfoldable pub answers_of : List ℕ → List Next
answers_of bytes = answers_by (header_fault bytes) bytes
