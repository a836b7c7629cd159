-- The line of text of a record. This project's own format.
use Rattle.std.specs.Prelude.{ℕ, List, [], ◌∷◌, ◌++◌, codes, map}
use Rattle.std.specs.Fmt.{decimal}
use Rattle.std.specs.Int.{w32, w64, to_be_bytes}
use Rattle.std.specs.List.{join_with_byte}
use Rattle.hex.specs.Hex.{encode_lower}
use Rattle.dt_record.specs.declared.keys.Key.{Key}
use Rattle.dt_record.specs.declared.records.Record.{Record}
use Rattle.dt_record.specs.declared.records.Retire.{Retire}
use Rattle.dt_record.specs.declared.records.Body.{Body}
use Rattle.dt_record.specs.declared.records.Body.TheVariants.{Commit, Trap, Regs, Csrs, Load, Store, Atomic, Drain, Refill, Beat}
use Rattle.dt_record.specs.Keys.{key_of}
use Rattle.dt_record.specs.Spelling.{flag}

-- a space, the name of a field, and what comes after the name
abbrev pub field : List ℕ → List ℕ → List ℕ
field name text = codes " " ++ name ++ codes "=" ++ text

-- 16 and 8 hexadecimal digits
abbrev pub sixteen_digits : ℕ → List ℕ
sixteen_digits n = encode_lower (to_be_bytes w64 n)

unfoldable pub double_field : List ℕ → ℕ → List ℕ
double_field name n = field name (sixteen_digits n)

unfoldable pub word_field : List ℕ → ℕ → List ℕ
word_field name n = field name (encode_lower (to_be_bytes w32 n))

unfoldable pub decimal_field : List ℕ → ℕ → List ℕ
decimal_field name n = field name (decimal n)

-- two digits for each byte
unfoldable pub bytes_field : List ℕ → List ℕ → List ℕ
bytes_field name bytes = field name (encode_lower bytes)

-- numbers of 16 digits, joined by commas
unfoldable pub doubles_field : List ℕ → List ℕ → List ℕ
doubles_field name ns = field name (join_with_byte 44 (map sixteen_digits ns))

abbrev pub retire_fields : Retire → List ℕ
retire_fields r = double_field (codes "pc") r.pc ++ word_field (codes "bits") r.bits ++ double_field (codes "value") r.value

-- the name of the kind, and its fields
abbrev pub body_text : Body → List ℕ
body_text (Commit retire) = codes "Commit" ++ retire_fields retire
body_text (Trap pc bits cause tval) =
    codes "Trap" ++ double_field (codes "pc") pc ++ word_field (codes "bits") bits ++ double_field (codes "cause") cause
    ++ double_field (codes "tval") tval
body_text (Regs pc x) = codes "Regs" ++ double_field (codes "pc") pc ++ doubles_field (codes "x") x
body_text (Csrs mode v) = codes "Csrs" ++ decimal_field (codes "mode") mode ++ doubles_field (codes "v") v
body_text (Load retire at paddr) =
    codes "Load" ++ retire_fields retire ++ decimal_field (codes "at") at ++ double_field (codes "paddr") paddr
body_text (Store pc bits paddr value) =
    codes "Store" ++ double_field (codes "pc") pc ++ word_field (codes "bits") bits ++ double_field (codes "paddr") paddr
    ++ double_field (codes "value") value
body_text (Atomic retire paddr width wrote new) =
    codes "Atomic" ++ retire_fields retire ++ double_field (codes "paddr") paddr ++ decimal_field (codes "width") width
    ++ decimal_field (codes "wrote") (flag wrote) ++ double_field (codes "new") new
body_text (Drain line mask count bytes) =
    codes "Drain" ++ double_field (codes "line") line ++ double_field (codes "mask") mask ++ decimal_field (codes "count") count
    ++ bytes_field (codes "bytes") bytes
body_text (Refill line bytes) = codes "Refill" ++ double_field (codes "line") line ++ bytes_field (codes "bytes") bytes
body_text Beat = codes "Beat"

-- a key: the stamp, the hart, and the number among the hart's records
unfoldable pub key_text : Key → List ℕ
key_text key = decimal key.stamp ++ codes "." ++ decimal key.hart ++ codes "." ++ decimal key.seq

-- the line of the record with this number among its hart's records, with its line feed
unfoldable pub line_text : ℕ → Record → List ℕ
line_text seq r = key_text (key_of seq r) ++ codes " " ++ body_text r.body ++ 10 ∷ []
