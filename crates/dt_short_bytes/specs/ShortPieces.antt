use Rattle.dt_short_bytes.specs.declared.short_pieces.Pieces.{Pieces}
use Rattle.dt_short_bytes.specs.ShortReading.{Read}

-- what was read, without where the line lies in memory
abbrev pub read_of : Pieces → Read
read_of p = record { kind = p.kind; hart = p.hart; later = p.later; numbers = p.numbers; line = p.line.now }
