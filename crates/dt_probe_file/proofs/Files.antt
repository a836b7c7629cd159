-- The bytes of a probe file and the answers of one are the same bytes.
use Rattle.std.proofs.Common.{◌≡◌, ℕ, ◌+◌, ◌≤◌, Bool, List, [], ◌∷◌, ◌++◌, length, map, filter, refl, sym, ap, ◌∙◌, append_assoc, arith}
use Rattle.dt_record.proofs.CountedWrites.{length-writing}
use Rattle.dt_record.specs.declared.records.Record.{Record}
use Rattle.dt_record.specs.declared.streams.Next.{Next}
use Rattle.dt_record.specs.declared.streams.Next.TheVariants.{Header, Event, End}
use Rattle.dt_record.specs.Spelling.{Version, end_bytes}
use Rattle.dt_record.specs.ProbeFile.{header_bytes, no_stamps, stamped, records_bytes, AreRecords, IsProbeFile}
use Rattle.dt_record.specs.Writes.{writes_memory}
use Rattle.dt_record.specs.Answers.{Reading, opened, after_record, spelled_next, AreAnswersAfter, AreAnswers}

-- the answers of a file with these records
abbrev pub file_answers : List Record → ℕ → List Next
file_answers records count = map (λ r. Event r) records ++ End count ∷ []

-- records within the limits stand behind other records
record AreWithin (s : Reading) (records : List Record) (bytes : List ℕ) (count : ℕ) : Type 0 where
  spelled : bytes ≡ records_bytes s.version s.last records ++ end_bytes count
  each : AreRecords s.harts s.last records
  count_is : count ≡ s.events + length records
  few_records : s.events + length records ≤ 4_194_304
  few_writes : s.writes + length (filter writes_memory records) ≤ 1_048_576

gives : (s : Reading) (records : List Record) (bytes : List ℕ) (count : ℕ) → AreWithin s records bytes count → AreAnswersAfter s bytes (file_answers records count)
gives s [] bytes count h = (refl, (let e = h.count_is in omega arith), h.spelled ∙ ap end_bytes (let e = h.count_is in omega arith))
gives s (r ∷ records) bytes count h =
    let writes = length-writing r records in
    let writes_are = h.few_writes in
    let records_are = h.few_records in
    let count_is = h.count_is in
    let rest = records_bytes s.version (stamped s.last r) records ++ end_bytes count in
    let spelled : bytes ≡ spelled_next s r ++ rest = h.spelled ∙ append_assoc (spelled_next s r) (records_bytes s.version (stamped s.last r) records) (end_bytes count) in (
      rest,
      record { spelled = spelled; next = h.each.0 },
      record { few_records = omega arith; few_writes = omega arith },
      gives (after_record s r) records rest count (record { spelled = refl; each = h.each.1; count_is = omega arith; few_records = omega arith; few_writes = omega arith }),
    )

given : (s : Reading) (records : List Record) (bytes : List ℕ) (count : ℕ) → s.events ≤ 4_194_304 → s.writes ≤ 1_048_576 → AreAnswersAfter s bytes (file_answers records count) → AreWithin s records bytes count
given s [] bytes count few_records few_writes a =
    let e = a.1 in
    record {
      spelled = a.2 ∙ ap end_bytes (sym a.1);
      each = tt;
      count_is = omega arith;
      few_records = omega arith;
      few_writes = omega arith;
    }
given s (r ∷ records) bytes count few_records few_writes a =
    let room_records = a.2.few_records in
    let room_writes = a.2.few_writes in
    let more = given (after_record s r) records a.0 count (omega arith) room_writes a.3 in
    let writes = length-writing r records in
    let writes_are = more.few_writes in
    let records_are = more.few_records in
    let count_is = more.count_is in
    record {
      spelled =
          a.1.spelled ∙ ap (λ (z : List ℕ). spelled_next s r ++ z) more.spelled
          ∙ sym (append_assoc (spelled_next s r) (records_bytes s.version (stamped s.last r) records) (end_bytes count));
      each = (a.1.next, more.each);
      count_is = omega arith;
      few_records = omega arith;
      few_writes = omega arith;
    }

pub file_gives : (bytes : List ℕ) (version : Version) (harts : ℕ) (wide : Bool) (records : List Record) → IsProbeFile bytes version harts wide records → AreAnswers bytes (Header harts wide ∷ file_answers records (length records))
file_gives bytes version harts wide records f =
    let records_are = f.few_records in
    let writes_are = f.few_writes in
    let within : AreWithin (opened version harts) records (records_bytes version no_stamps records ++ end_bytes (length records)) (length records) =
    record { spelled = refl; each = f.each; count_is = omega arith; few_records = omega arith; few_writes = omega arith } in (
      version,
      record {
        some_hart = f.some_hart;
        few_harts = f.few_harts;
        rest = records_bytes version no_stamps records ++ end_bytes (length records);
        spelled = f.spelled ∙ append_assoc (header_bytes version harts wide) (records_bytes version no_stamps records) (end_bytes (length records));
        after = gives (opened version harts) records (records_bytes version no_stamps records ++ end_bytes (length records)) (length records) within;
      },
    )

pub file_given : (bytes : List ℕ) (harts : ℕ) (wide : Bool) (records : List Record) (count : ℕ) → AreAnswers bytes (Header harts wide ∷ file_answers records count) → (count ≡ length records) × ((version : Version) × IsProbeFile bytes version harts wide records)
file_given bytes harts wide records count a =
    let h = a.1 in
    let within = given (opened a.0 harts) records h.rest count (omega arith) (omega arith) h.after in
    let count_is : count ≡ length records = (let e = within.count_is in omega arith) in
    let writes_are = within.few_writes in
    let records_are = within.few_records in
    let spelled : h.rest ≡ records_bytes a.0 no_stamps records ++ end_bytes (length records) = within.spelled ∙ ap (λ (n : ℕ). records_bytes a.0 no_stamps records ++ end_bytes n) count_is in (
      count_is,
      (
        a.0,
        record {
          spelled =
              h.spelled ∙ ap (λ (z : List ℕ). header_bytes a.0 harts wide ++ z) spelled
              ∙ sym (append_assoc (header_bytes a.0 harts wide) (records_bytes a.0 no_stamps records) (end_bytes (length records)));
          some_hart = h.some_hart;
          few_harts = h.few_harts;
          each = within.each;
          few_records = omega arith;
          few_writes = omega arith;
        },
      ),
    )
