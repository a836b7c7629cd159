use Rattle.std.specs.Prelude.{ℕ, ◌+◌, Option, None, Some, List, [], ◌∷◌}
use Rattle.dt_decode.specs.declared.instructions.Instr.{Instr}
use Rattle.dt_decode.specs.declared.instructions.Instr.TheVariants.{Lr, Sc}
use Rattle.dt_record.specs.declared.keys.Key.{Key}
use Rattle.dt_record.specs.declared.records.Record.{Record}
use Rattle.dt_record.specs.declared.records.Body.{Body}
use Rattle.dt_record.specs.declared.records.Body.TheVariants.{Atomic}
use Rattle.dt_record.specs.Keys.{key_of}
use Rattle.dt_record.specs.Memory.{line_of}
use Rattle.dt_reference.specs.Meaning.{meaning_of}

-- The reservation of a hart (Volume I, section 8.2; that it has 64 bytes is this project's own).

-- what an instruction at an address leaves of a reservation: an LR that retires sets that of its line, and an SC that
-- retires leaves none
abbrev pub reserved_after : Key → (paddr : ℕ) → Option Instr → Option (ℕ × Key) → Option (ℕ × Key)
reserved_after key paddr (Some (Lr width aq rl rd rs1)) old = Some (line_of paddr, key)
reserved_after key paddr (Some (Sc width aq rl rd rs1 rs2)) old = None
reserved_after key paddr instr old = old

-- the reservation after the body of a record with this key
abbrev pub reserved_by : Key → Body → Option (ℕ × Key) → Option (ℕ × Key)
reserved_by key (Atomic retire paddr width wrote new) old = reserved_after key paddr (meaning_of retire.bits) old
reserved_by key body old = old

-- the reservation after some records of a hart, after so many of its records
abbrev pub reserved_from : ℕ → Option (ℕ × Key) → List Record → Option (ℕ × Key)
reserved_from seq old [] = old
reserved_from seq old (r ∷ rs) = reserved_from (seq + 1) (reserved_by (key_of seq r) r.body old) rs

-- the reservation after the first records of a hart: its line, and the key of the LR that made it
abbrev pub reserved_in : List Record → Option (ℕ × Key)
reserved_in records = reserved_from 0 None records
