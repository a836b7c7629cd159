-- Converted answers are a probe file.
use Rattle.std.proofs.Common.{◌≡◌, ◌∙◌, ◌+◌, ◌≤◌, ℕ, Bool, List, [], ◌∷◌, ◌++◌, Some, length, map, filter, refl, sym, ap, subst, append_assoc, arith}
use Rattle.dt_record.proofs.CountedWrites.{length-writing}
use Rattle.dt_record.specs.declared.records.Record.{Record}
use Rattle.dt_record.specs.declared.streams.Next.{Next}
use Rattle.dt_record.specs.declared.streams.Next.TheVariants.{Header, Event, End, Malformed, Limit, ReadFault, OutOfMemory}
use Rattle.dt_record.specs.Spelling.{Version, end_bytes}
use Rattle.dt_record.specs.ProbeFile.{header_bytes, no_stamps, stamped, records_bytes, AreRecords, IsProbeFile}
use Rattle.dt_record.specs.Writes.{writes_memory}
use Rattle.dt_record.specs.Answers.{Reading, opened, after_record, spelled_next, GoesOn, AreOpened, AreAnswersAfter, AreAnswers}
use Rattle.dt_dump.specs.Dump.{records_in, end_of}
use Rattle.dt_convert.specs.Convert.{file_bytes, converted}
use Rattle.dt_convert.proofs.Endings.{whole_answer}

-- the rest of a file, with these records
record AreWithin (s : Reading) (bytes : List ℕ) (records : List Record) : Type 0 where
  spelled : bytes ≡ records_bytes s.version s.last records ++ end_bytes (s.events + length records)
  each : AreRecords s.harts s.last records
  few_records : s.events + length records ≤ 4_194_304
  few_writes : s.writes + length (filter writes_memory records) ≤ 1_048_576

within_record : (s : Reading) (bytes rest : List ℕ) (r : Record) (records : List Record) → GoesOn s bytes r rest → AreWithin (after_record s r) rest records
    → AreWithin s bytes (r ∷ records)
within_record s bytes rest r records next w =
    let writes = length-writing r records in
    let writes_are = w.few_writes in
    let records_are = w.few_records in
    let counted : s.events + 1 + length records ≡ s.events + length (r ∷ records) = omega arith in
    record {
      spelled = next.spelled
          ∙ ap (λ (z : List ℕ). spelled_next s r ++ z) w.spelled
          ∙ ap (λ (n : ℕ). spelled_next s r ++ (records_bytes s.version (stamped s.last r) records ++ end_bytes n)) counted
          ∙ sym (append_assoc (spelled_next s r) (records_bytes s.version (stamped s.last r) records) (end_bytes (s.events + length (r ∷ records))));
      each = (next.next, w.each);
      few_records = omega arith;
      few_writes = omega arith;
    }

within : (s : Reading) (bytes : List ℕ) (answers : List Next) (count : ℕ) → s.events ≤ 4_194_304 → s.writes ≤ 1_048_576 → AreAnswersAfter s bytes answers
    → end_of answers ≡ Some (End count) → AreWithin s bytes (records_in answers)
within s bytes [] count few_records few_writes a ending = absurd a
within s bytes (Header harts wide ∷ more) count few_records few_writes a ending = absurd a
within s bytes (Event r ∷ more) count few_records few_writes a ending =
    let room = a.2.few_records in
    within_record s bytes a.0 r (records_in more) a.1 (within (after_record s r) a.0 more count (omega arith) a.2.few_writes a.3 ending)
within s bytes (End n ∷ more) count few_records few_writes a ending =
    let none : s.events ≡ s.events + 0 = omega arith in
    record {
      spelled = a.2 ∙ ap end_bytes none;
      each = tt;
      few_records = omega arith;
      few_writes = omega arith;
    }
within s bytes (Malformed offset ∷ more) count few_records few_writes a ending = cc
within s bytes (Limit what number ∷ more) count few_records few_writes a ending = cc
within s bytes (ReadFault ∷ more) count few_records few_writes a ending = absurd a
within s bytes (OutOfMemory ∷ more) count few_records few_writes a ending = absurd a

opened_file : (bytes : List ℕ) (own : Version) (harts : ℕ) (wide : Bool) (more : List Next) (count : ℕ) → AreOpened bytes own harts wide more
    → end_of more ≡ Some (End count) → IsProbeFile bytes own harts wide (records_in more)
opened_file bytes own harts wide more count o ending =
    let w = within (opened own harts) o.rest more count (omega arith) (omega arith) o.after ending in
    let records = records_in more in
    let header = header_bytes own harts wide in
    let counted : 0 + length records ≡ length records = omega arith in
    let few_records = w.few_records in
    let few_writes = w.few_writes in
    record {
      spelled = o.spelled
          ∙ ap (λ (z : List ℕ). header ++ z) w.spelled
          ∙ ap (λ (n : ℕ). header ++ (records_bytes own no_stamps records ++ end_bytes n)) counted
          ∙ sym (append_assoc header (records_bytes own no_stamps records) (end_bytes (length records)));
      some_hart = o.some_hart;
      few_harts = o.few_harts;
      each = w.each;
      few_records = omega arith;
      few_writes = omega arith;
    }

-- the file with the same header and records in another version
in_version : (bytes : List ℕ) (own version : Version) (harts : ℕ) (wide : Bool) (records : List Record) → IsProbeFile bytes own harts wide records
    → IsProbeFile (file_bytes version harts wide records) version harts wide records
in_version bytes own version harts wide records f = record {
  spelled = refl;
  some_hart = f.some_hart;
  few_harts = f.few_harts;
  each = f.each;
  few_records = f.few_records;
  few_writes = f.few_writes;
}

pub is_a_file : (bytes : List ℕ) (answers : List Next) (count : ℕ) → AreAnswers bytes answers → end_of answers ≡ Some (End count)
    → (own : Version) × (harts : ℕ) × (wide : Bool) × IsProbeFile bytes own harts wide (records_in answers)
    × ((version : Version) → IsProbeFile (converted version answers) version harts wide (records_in answers))
is_a_file bytes [] count a ending = absurd a
is_a_file bytes (Header harts wide ∷ more) count a ending =
    let file = opened_file bytes a.0 harts wide more count a.1 ending in (
      a.0,
      harts,
      wide,
      file,
      λ version. subst (λ (z : List ℕ). IsProbeFile z version harts wide (records_in more)) (sym (whole_answer version (Header harts wide ∷ more) (End count) ending).0)
          (in_version bytes a.0 version harts wide (records_in more) file),
    )
is_a_file bytes (Event r ∷ more) count a ending = absurd a
is_a_file bytes (End n ∷ more) count a ending = absurd a
is_a_file bytes (Malformed offset ∷ more) count a ending = cc
is_a_file bytes (Limit what number ∷ more) count a ending = absurd a
is_a_file bytes (ReadFault ∷ more) count a ending = absurd a
is_a_file bytes (OutOfMemory ∷ more) count a ending = absurd a

-- ---- the answers of a file

-- records, and then their end
abbrev pub told_records : List Record → ℕ → List Next
told_records records count = map (λ r. Event r) records ++ End count ∷ []

records_told : (records : List Record) (count : ℕ) → records_in (told_records records count) ≡ records
records_told [] count = refl
records_told (r ∷ rs) count = ap (λ (z : List Record). r ∷ z) (records_told rs count)

end_told : (records : List Record) (count : ℕ) → end_of (told_records records count) ≡ Some (End count)
end_told [] count = refl
end_told (r ∷ rs) count = end_told rs count

gives : (s : Reading) (bytes : List ℕ) (records : List Record) (count : ℕ) → AreWithin s bytes records → count ≡ s.events + length records
    → AreAnswersAfter s bytes (told_records records count)
gives s bytes [] count w counted =
    let none : s.events + 0 ≡ s.events = omega arith in
    (refl, counted ∙ none, w.spelled ∙ ap end_bytes none)
gives s bytes (r ∷ records) count w counted =
    let writes = length-writing r records in
    let writes_are = w.few_writes in
    let records_are = w.few_records in
    let n = s.events + length (r ∷ records) in
    let one_more : n ≡ s.events + 1 + length records = omega arith in
    let rest = records_bytes s.version (stamped s.last r) records ++ end_bytes n in (
      rest,
      record { spelled = w.spelled ∙ append_assoc (spelled_next s r) (records_bytes s.version (stamped s.last r) records) (end_bytes n); next = w.each.0 },
      record { few_records = omega arith; few_writes = omega arith },
      gives (after_record s r) rest records count (record {
        spelled = ap (λ (m : ℕ). records_bytes s.version (stamped s.last r) records ++ end_bytes m) one_more;
        each = w.each.1;
        few_records = omega arith;
        few_writes = omega arith;
      }) (counted ∙ one_more),
    )

file_gives : (bytes : List ℕ) (version : Version) (harts : ℕ) (wide : Bool) (records : List Record) → IsProbeFile bytes version harts wide records
    → AreAnswers bytes (Header harts wide ∷ told_records records (length records))
file_gives bytes version harts wide records f =
    let rest = records_bytes version no_stamps records ++ end_bytes (length records) in
    let counted : length records ≡ 0 + length records = omega arith in
    let few_records = f.few_records in
    let few_writes = f.few_writes in (
      version,
      record {
        some_hart = f.some_hart;
        few_harts = f.few_harts;
        rest = rest;
        spelled = f.spelled ∙ append_assoc (header_bytes version harts wide) (records_bytes version no_stamps records) (end_bytes (length records));
        after = gives (opened version harts) rest records (length records) (record {
          spelled = ap (λ (m : ℕ). records_bytes version no_stamps records ++ end_bytes m) counted;
          each = f.each;
          few_records = omega arith;
          few_writes = omega arith;
        }) counted;
      },
    )

pub converts : (file other : List ℕ) (version between : Version) (harts : ℕ) (wide : Bool) (records : List Record)
    → IsProbeFile file version harts wide records → IsProbeFile other between harts wide records
    → AreAnswers other (Header harts wide ∷ told_records records (length records))
    × (converted version (Header harts wide ∷ told_records records (length records)) ≡ file)
converts file other version between harts wide records f g =
    let answers = Header harts wide ∷ told_records records (length records) in (
      file_gives other between harts wide records g,
      (whole_answer version answers (End (length records)) (end_told records (length records))).0
          ∙ ap (λ (rs : List Record). file_bytes version harts wide rs) (records_told records (length records))
          ∙ sym f.spelled,
    )
