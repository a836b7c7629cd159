use Rattle.std.specs.Prelude.{ℕ, ◌==◌, ◌&&◌, Bool, false, not, Option, List}
use Rattle.std.specs.Option.{option_map_or}
use Rattle.dt_record.specs.declared.keys.Key.{Key}
use Rattle.dt_record.specs.declared.writes.Write.{Write}
use Rattle.dt_record.specs.Memory.{is_touched}

-- The reservation of an SC with this key, made by an LR of a line, is live: it is of the SC's line, and no
-- other hart wrote to the line between the LR and the SC (The RISC-V Instruction Set Manual, Volume I,
-- section 8.2; that a reservation has 64 bytes and that any other write ends it is this project's own).
abbrev pub is_live : List Write → Option (ℕ × Key) → (line : ℕ) → Key → Bool
is_live writes reserved line key =
    option_map_or (λ made. (made.0 == line) && not (is_touched writes line made.1 key key.hart)) reserved false
