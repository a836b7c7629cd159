-- What lent fields stand for (this project's own).
use Rattle.std.specs.Prelude.{ℕ, zero, suc, ◌/◌, ◌==◌, Bool, true, List, [], ◌∷◌, length, take, drop}
use Rattle.std.specs.Int.{from_le_bytes, w64}
use Rattle.dt_record.specs.declared.records.Body.{Body}
use Rattle.dt_record.specs.declared.records.Body.TheVariants as body
use Rattle.dt_record.specs.declared.lent.WordsAt.{WordsAt}
use Rattle.dt_record.specs.declared.lent.WordsAt.TheVariants.{Bytes, Numbers}
use Rattle.dt_record.specs.declared.lent.BodyAt.{BodyAt}
use Rattle.dt_record.specs.declared.lent.BodyAt.TheVariants.{Commit, Trap, Regs, Csrs, Load, Store, Atomic, Drain, Refill, Beat}

-- the number in the eight bytes from a place on, the low byte first
abbrev pub double_in : List ℕ → ℕ → ℕ
double_in bytes place = from_le_bytes w64 (take 8 (drop place bytes))

-- so many numbers at the front of bytes
abbrev pub front_words : ℕ → List ℕ → List ℕ
front_words zero bytes = []
front_words (suc count) bytes = double_in bytes 0 ∷ front_words count (drop 8 bytes)

-- as many numbers as bytes hold whole
abbrev pub words_in : List ℕ → List ℕ
words_in bytes = front_words (length bytes / 8) bytes

abbrev pub words_of : WordsAt → List ℕ
words_of (Bytes bytes) = words_in bytes.now
words_of (Numbers numbers) = numbers.now

-- the body of a record with lent fields
abbrev pub body_of : BodyAt → Body
body_of (Commit retire) = body.Commit retire
body_of (Trap pc bits cause tval) = body.Trap pc bits cause tval
body_of (Regs pc x) = body.Regs pc (words_of x)
body_of (Csrs mode v) = body.Csrs mode (words_of v)
body_of (Load retire at paddr) = body.Load retire at paddr
body_of (Store pc bits paddr value) = body.Store pc bits paddr value
body_of (Atomic retire paddr width wrote new) = body.Atomic retire paddr width wrote new
body_of (Drain line mask count bytes) = body.Drain line mask count bytes.now
body_of (Refill line bytes) = body.Refill line bytes.now
body_of Beat = body.Beat

-- whether each lent field has its length
abbrev pub is_whole : BodyAt → Bool
is_whole (Regs pc x) = length (words_of x) == 31
is_whole (Csrs mode v) = length (words_of v) == 17
is_whole (Drain line mask count bytes) = length bytes.now == 64
is_whole (Refill line bytes) = length bytes.now == 64
is_whole _ = true
