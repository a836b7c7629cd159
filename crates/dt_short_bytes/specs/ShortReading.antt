-- Reading from left to right: what each piece at the front of some bytes is, or where it stops.
use Rattle.std.specs.Prelude.{ℕ, zero, suc, ◌≡◌, ◌+◌, ◌-◌, ◌*◌, ◌/◌, ◌%◌, ◌^◌, ◌==◌, Bool, true, false, not, if◌then◌else◌, Option, Some, None, Result, Ok, Err, List, [], ◌∷◌, ◌++◌, length, take, drop, replicate, nat_lt, slice_index, option_and_then}
use Rattle.dt_record.specs.declared.records.Record.{Record}
use Rattle.dt_record.specs.declared.records.Retire.{Retire}
use Rattle.dt_record.specs.declared.records.Body.{Body}
use Rattle.dt_record.specs.declared.records.Body.TheVariants as bodies
use Rattle.dt_record.specs.Kinds.{kind_with}
use Rattle.dt_record.specs.Lawful.{is_lawful}
use Rattle.dt_record.specs.declared.kinds.Kind.{Kind}
use Rattle.dt_record.specs.declared.kinds.Kind.TheVariants as kinds
use Rattle.dt_short_bytes.specs.declared.short_pieces.Stop.{Stop}
use Rattle.dt_short_bytes.specs.declared.short_pieces.Stop.TheVariants as stops
use Rattle.dt_record_bytes.specs.declared.decoded.Decoded.{Decoded}
use Rattle.dt_record_bytes.specs.declared.decoded.Decoded.TheVariants as answers
use Rattle.dt_short_bytes.specs.ShortForms.{field_count, line_count}

infixl 10 ◌>>=◌
abbrev pub ◌>>=◌ : {A B : Type 0} → Result A Stop → (A → Result B Stop) → Result B Stop
(Ok x) >>= f = f x
(Err e) >>= f = Err e

-- what a function returned, seen by view, is what reading gives
abbrev pub Gives : {X Y : Type 0} → (X → Y) → Result X Stop → Result Y Stop → Type 0
Gives view (Ok x) read = read ≡ Ok (view x)
Gives view (Err e) read = read ≡ Err e

-- the byte b doesn't fit, where so many bytes come after it
abbrev pub bad : {A : Type 0} → List ℕ → Result A Stop
bad after = Err (stops.Bad (length after + 1))

abbrev pub kind_or_bad : Option Kind → List ℕ → Result (Kind × List ℕ) Stop
kind_or_bad (Some kind) after = Ok (kind, after)
kind_or_bad None after = bad after

unfoldable pub kind_at : List ℕ → Result (Kind × List ℕ) Stop
kind_at [] = Err stops.Short
kind_at (tag ∷ after) = kind_or_bad (kind_with tag) after

unfoldable pub byte_from : List ℕ → Result (ℕ × List ℕ) Stop
byte_from [] = Err stops.Short
byte_from (b ∷ after) = Ok (b, after)

-- no number that isn't 0 goes on with this group, where at most so many follow it
abbrev pub is_wrong_group : ℕ → ℕ → Bool
is_wrong_group more b = if more == 0 then not (b == 1) else b == 0

-- a number that isn't 0, of at most so many bytes after the first
unfoldable pub groups_at : ℕ → List ℕ → Result (ℕ × List ℕ) Stop
groups_at zero [] = Err stops.Short
groups_at (suc more) [] = Err stops.Short
groups_at zero (b ∷ after) = if b == 1 then Ok (1, after) else bad after
groups_at (suc more) (b ∷ after) =
    if b == 0 then bad after
    else if nat_lt b 128 then Ok (b, after)
    else (groups_at more after >>= λ high. Ok (b - 128 + 128 * high.0, high.1))

unfoldable pub later_at : List ℕ → Result (ℕ × List ℕ) Stop
later_at [] = groups_at 9 []
later_at (zero ∷ after) = Ok (0, after)
later_at (suc b ∷ after) = groups_at 9 (suc b ∷ after)

-- so many presence bytes for so many fields
unfoldable pub presence_at : ℕ → ℕ → List ℕ → Result (ℕ × List ℕ) Stop
presence_at zero fields bytes = Ok (0, bytes)
presence_at (suc more) fields [] = Err stops.Short
presence_at (suc more) fields (b ∷ after) =
    if nat_lt b (2 ^ fields) then (presence_at more (fields - 8) after >>= λ high. Ok (b + 256 * high.0, high.1))
    else bad after

unfoldable pub field_at : Bool → List ℕ → Result (ℕ × List ℕ) Stop
field_at true bytes = groups_at 9 bytes
field_at false bytes = Ok (0, bytes)

unfoldable pub fields_at : ℕ → ℕ → List ℕ → Result (List ℕ × List ℕ) Stop
fields_at zero present bytes = Ok ([], bytes)
fields_at (suc count) present bytes =
    field_at (present % 2 == 1) bytes >>= λ first.
    fields_at count (present / 2) first.1 >>= λ others.
    Ok (first.0 ∷ others.0, others.1)

-- numbers in 32 places, 0 behind the last
abbrev pub padded : List ℕ → List ℕ
padded numbers = numbers ++ replicate (32 - length numbers) 0

unfoldable pub padded_at : ℕ → ℕ → List ℕ → Result (List ℕ × List ℕ) Stop
padded_at count present bytes = fields_at count present bytes >>= λ numbers. Ok (padded numbers.0, numbers.1)

unfoldable pub line_at : ℕ → List ℕ → Result (List ℕ × List ℕ) Stop
line_at len bytes = if nat_lt (length bytes) len then Err stops.Short else Ok (take len bytes, drop len bytes)

-- a form as it is read, with its numbers in 32 places
pub record Read : Type 0 where
  pub kind : Kind
  pub hart : ℕ
  pub later : ℕ
  pub numbers : List ℕ
  pub line : List ℕ

unfoldable pub read_at : List ℕ → Result (Read × List ℕ) Stop
read_at bytes =
    kind_at bytes >>= λ kind.
    byte_from kind.1 >>= λ hart.
    later_at hart.1 >>= λ later.
    presence_at ((field_count kind.0 + 7) / 8) (field_count kind.0) later.1 >>= λ present.
    padded_at (field_count kind.0) present.0 present.1 >>= λ numbers.
    line_at (line_count kind.0 numbers.0) numbers.1 >>= λ line.
    Ok (record { kind = kind.0; hart = hart.0; later = later.0; numbers = numbers.0; line = line.0 }, line.1)

-- a number that fits its field
abbrev pub below : ℕ → ℕ → Option ℕ
below bound n = if nat_lt n bound then Some n else None

abbrev pub flag_at : ℕ → Option Bool
flag_at n = if n == 0 then Some false else if n == 1 then Some true else None

-- a whole line
abbrev pub whole_line : List ℕ → Option (List ℕ)
whole_line line = if nat_lt (length line) 64 then None else Some (take 64 line)

-- the byte at a place of a line, from the bytes that are left of those that were spelled
abbrev pub next_byte : Bool → List ℕ → ℕ
next_byte false line = 0
next_byte true [] = 0
next_byte true (b ∷ bs) = b

abbrev pub line_after : Bool → List ℕ → List ℕ
line_after false line = line
line_after true [] = []
line_after true (b ∷ bs) = bs

-- so many bytes of a line, from those whose mask bit is set
unfoldable pub spread : ℕ → ℕ → List ℕ → List ℕ
spread zero mask line = []
spread (suc more) mask line = next_byte (mask % 2 == 1) line ∷ spread more (mask / 2) (line_after (mask % 2 == 1) line)

abbrev pub number : List ℕ → ℕ → ℕ
number numbers i = slice_index numbers i

abbrev pub retire_at : List ℕ → Option Retire
retire_at numbers =
    option_and_then (λ bits. Some (record { pc = number numbers 0; bits = bits; value = number numbers 2 }))
    (below (2 ^ 32) (number numbers 1))

abbrev pub atomic_at : List ℕ → Option Body
atomic_at numbers =
    option_and_then (λ retire. option_and_then (λ width. option_and_then (λ wrote.
    Some (bodies.Atomic retire (number numbers 3) width wrote (number numbers 6)))
    (flag_at (number numbers 5))) (below (2 ^ 8) (number numbers 4))) (retire_at numbers)

-- the body that numbers in 32 places and bytes of a line are of
abbrev pub body_at : Kind → List ℕ → List ℕ → Option Body
body_at kinds.Commit numbers line = option_and_then (λ retire. Some (bodies.Commit retire)) (retire_at numbers)
body_at kinds.Trap numbers line =
    option_and_then (λ bits. Some (bodies.Trap (number numbers 0) bits (number numbers 2) (number numbers 3)))
    (below (2 ^ 32) (number numbers 1))
body_at kinds.Regs numbers line = Some (bodies.Regs (number numbers 0) (take 31 (drop 1 numbers)))
body_at kinds.Csrs numbers line =
    option_and_then (λ mode. Some (bodies.Csrs mode (take 17 (drop 1 numbers)))) (below (2 ^ 8) (number numbers 0))
body_at kinds.Load numbers line =
    option_and_then (λ retire. Some (bodies.Load retire (number numbers 3) (number numbers 4))) (retire_at numbers)
body_at kinds.Store numbers line =
    option_and_then (λ bits. Some (bodies.Store (number numbers 0) bits (number numbers 2) (number numbers 3)))
    (below (2 ^ 32) (number numbers 1))
body_at kinds.Atomic numbers line = atomic_at numbers
body_at kinds.Drain numbers line =
    option_and_then (λ count. Some (bodies.Drain (number numbers 0) (number numbers 1) count (spread 64 (number numbers 1) line)))
    (below (2 ^ 16) (number numbers 2))
body_at kinds.Refill numbers line = option_and_then (λ bytes. Some (bodies.Refill (number numbers 0) bytes)) (whole_line line)
body_at kinds.Beat numbers line = Some bodies.Beat

abbrev pub if_lawful : Record → Option Record
if_lawful r = if is_lawful r then Some r else None

-- the lawful record that a form says after a stamp
unfoldable pub record_at : ℕ → Read → Option Record
record_at last read =
    option_and_then (λ stamp. option_and_then (λ body. if_lawful (record { stamp = stamp; hart = read.hart; body = body }))
    (body_at read.kind read.numbers read.line)) (below (2 ^ 64) (last + read.later))

abbrev pub got_or_bad : Option Record → ℕ → Decoded
got_or_bad (Some r) len = answers.Got r len
got_or_bad None len = answers.Bad 0

abbrev pub decoded_with : ℕ → ℕ → Result (Read × List ℕ) Stop → Decoded
decoded_with last len (Ok read) = got_or_bad (record_at last read.0) (len - length read.1)
decoded_with last len (Err stops.Short) = answers.Short
decoded_with last len (Err (stops.Bad left)) = answers.Bad (len - left)

unfoldable pub decoded_at : ℕ → List ℕ → Decoded
decoded_at last bytes = decoded_with last (length bytes) (read_at bytes)
