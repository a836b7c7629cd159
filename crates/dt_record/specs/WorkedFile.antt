use Rattle.std.specs.Prelude.{◌≡◌, [], ◌∷◌, ◌++◌, false, refl}
use Rattle.dt_record.specs.declared.records.Record.{Record}
use Rattle.dt_record.specs.declared.records.Body.TheVariants.{Commit}
use Rattle.dt_record.specs.Spelling.{One, Two, half, word, double, varint, wide_bytes, short_bytes, end_bytes}
use Rattle.dt_record.specs.ProbeFile.{header_bytes, records_bytes, no_stamps}

-- One file of one record in both versions, byte by byte, as docs/PROBE-FORMAT.md shows it: hart 0
-- commits addi x1,x0,5 at the start of RAM in cycle 1.

abbrev pub one_commit : Record
one_commit = record { stamp = 1; hart = 0; body = Commit (record { pc = 0x8000_0000; bits = 0x0050_0093; value = 5 }) }

pub file_of_version_1 : header_bytes One 1 false ++ records_bytes One no_stamps (one_commit ∷ []) ++ end_bytes 1
    ≡ 83 ∷ 77 ∷ 80 ∷ 68 ∷ 73 ∷ 70 ∷ 70 ∷ 0 ∷ 1 ∷ 0 ∷ 1 ∷ 0 ∷ 0 ∷ 0 ∷ 0 ∷ 0
    ∷ 1 ∷ 0 ∷ 1 ∷ 0 ∷ 0 ∷ 0 ∷ 0 ∷ 0 ∷ 0 ∷ 0 ∷ 0 ∷ 0 ∷ 0 ∷ 128 ∷ 0 ∷ 0
    ∷ 0 ∷ 0 ∷ 147 ∷ 0 ∷ 80 ∷ 0 ∷ 5 ∷ 0 ∷ 0 ∷ 0 ∷ 0 ∷ 0 ∷ 0 ∷ 0 ∷ 255 ∷ 1
    ∷ 0 ∷ 0 ∷ 0 ∷ 0 ∷ 0 ∷ 0 ∷ 0 ∷ []
unfolding header_bytes half word double wide_bytes end_bytes
file_of_version_1 = refl

pub file_of_version_2 : header_bytes Two 1 false ++ records_bytes Two no_stamps (one_commit ∷ []) ++ end_bytes 1
    ≡ 83 ∷ 77 ∷ 80 ∷ 68 ∷ 73 ∷ 70 ∷ 70 ∷ 0 ∷ 2 ∷ 0 ∷ 1 ∷ 0 ∷ 0 ∷ 0 ∷ 0 ∷ 0
    ∷ 1 ∷ 0 ∷ 1 ∷ 7 ∷ 128 ∷ 128 ∷ 128 ∷ 128 ∷ 8 ∷ 147 ∷ 129 ∷ 192 ∷ 2 ∷ 5 ∷ 255 ∷ 1
    ∷ 0 ∷ 0 ∷ 0 ∷ 0 ∷ 0 ∷ 0 ∷ 0 ∷ []
unfolding header_bytes half word double varint short_bytes end_bytes
file_of_version_2 = refl
