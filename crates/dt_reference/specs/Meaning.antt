use Rattle.std.specs.Prelude.{ℕ, ◌%◌, ◌==◌, Option, option_and_then, if◌then◌else◌}
use Rattle.dt_decode.specs.declared.instructions.Instr.{Instr}
use Rattle.dt_decode.specs.Table.{instr_of}
use Rattle.dt_rvc.specs.Table.{expansion}

-- What an instruction as fetched means: a pattern whose low two bits are 11 is a 32-bit instruction,
-- and any other means what its 32-bit counterpart means (Volume I, sections 1.5 and 16.1).
abbrev pub meaning_of : ℕ → Option Instr
meaning_of bits = if bits % 4 == 3 then instr_of bits else option_and_then instr_of (expansion bits)
