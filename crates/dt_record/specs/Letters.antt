-- The letters of the rules at one record (this project's own).
use Rattle.std.specs.Prelude.{◌||◌, Bool}
use Rattle.dt_record.specs.declared.origins.Letters.{Letters}

-- some rule settled a departure at the record
abbrev pub has_letter : Letters → Bool
has_letter letters = letters.l || (letters.s || (letters.p || (letters.i || (letters.d || (letters.c || letters.z)))))
