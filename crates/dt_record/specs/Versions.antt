-- The versions of a probe file, as code names them (this project's own).
use Rattle.dt_record.specs.declared.spellings.Version.{Version}
use Rattle.dt_record.specs.declared.spellings.Version.TheVariants.{One, Two}
use Rattle.dt_record.specs.Spelling as spelling

-- the version of the grammar
abbrev pub version_of : Version → spelling.Version
version_of One = spelling.One
version_of Two = spelling.Two
