use Rattle.std.specs.Prelude.{ℕ, ◌+◌, ◌-◌, ◌*◌, ◌^◌, ◌%◌, ◌==◌, Bool, true, false, if◌then◌else◌, Option, None, Some, List, [], ◌∷◌, ◌++◌, take, replicate, option_to_list}
use Rattle.dt_record.specs.declared.records.Record.{Record}
use Rattle.dt_record.specs.declared.records.Body.{Body}
use Rattle.dt_record.specs.declared.records.Body.TheVariants.{Atomic, Drain}
use Rattle.dt_record.specs.declared.writes.Write.{Write}
use Rattle.dt_record.specs.declared.keys.Key.{Key}
use Rattle.dt_record.specs.Keys.{key_of, key_below}
use Rattle.dt_record.specs.Spelling.{double}

-- whether a record writes memory: a drain always, an atomic where it says so
abbrev pub writes_memory : Record → Bool
writes_memory r = body_writes r.body
  where
    body_writes : Body → Bool
    body_writes (Drain line mask count bytes) = true
    body_writes (Atomic retire paddr width wrote new) = wrote
    body_writes _ = false

-- the mask of so many bytes of a line, from this place on
abbrev pub width_mask : ℕ → ℕ → ℕ
width_mask place width = (2 ^ width - 1) * 2 ^ place

-- a line with the low bytes of a value at a place, and zeros elsewhere
abbrev pub line_with : ℕ → ℕ → ℕ → List ℕ
line_with place width value = replicate place 0 ++ take width (double value) ++ replicate (64 - (place + width)) 0

-- the write of an atomic that writes memory
abbrev pub write_of_atomic : Key → (paddr width new : ℕ) → Write
write_of_atomic key paddr width new = record {
  key = key;
  line = paddr - paddr % 64;
  mask = width_mask (paddr % 64) width;
  bytes = line_with (paddr % 64) width new;
}

-- the write that the body of a record with this key makes
abbrev pub body_write : Key → Body → Option Write
body_write key (Drain line mask count bytes) = Some (record { key = key; line = line; mask = mask; bytes = bytes })
body_write key (Atomic retire paddr width wrote new) = if wrote then Some (write_of_atomic key paddr width new) else None
body_write key _ = None

-- the write of the record with this number among its hart's records
abbrev pub write_of_record : ℕ → Record → Option Write
write_of_record seq r = body_write (key_of seq r) r.body

-- how many records each hart has had
abbrev pub no_records : ℕ → ℕ
no_records hart = 0

abbrev pub counted : (ℕ → ℕ) → Record → ℕ → ℕ
counted seqs r hart = if hart == r.hart then seqs hart + 1 else seqs hart

-- the writes of records in their order, after so many records of each hart
abbrev pub writes_after : (ℕ → ℕ) → List Record → List Write
writes_after seqs [] = []
writes_after seqs (r ∷ rs) = option_to_list (write_of_record (seqs r.hart) r) ++ writes_after (counted seqs r) rs

-- a write among writes that stand in the order of their keys
abbrev pub insert_write : Write → List Write → List Write
insert_write w [] = w ∷ []
insert_write w (v ∷ vs) = if key_below w.key v.key then w ∷ v ∷ vs else v ∷ insert_write w vs

abbrev pub by_key : List Write → List Write
by_key [] = []
by_key (w ∷ ws) = insert_write w (by_key ws)

-- the writes of a file's records, in the order of their keys
abbrev pub writes_of : List Record → List Write
writes_of records = by_key (writes_after no_records records)
