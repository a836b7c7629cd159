-- The answers of files that are broken or past a limit.
use Rattle.std.proofs.Common.{◌≡◌, ℕ, ◌+◌, ◌≤◌, inl, inr, Bool, List, [], ◌∷◌, ◌++◌, length, map, filter, refl, sym, ap, ◌∙◌, subst, append_assoc, length-append, arith}
use Rattle.dt_record.proofs.CountedWrites.{length-writing}
use Rattle.dt_record.specs.declared.records.Record.{Record}
use Rattle.dt_record.specs.declared.streams.Next.{Next}
use Rattle.dt_record.specs.declared.streams.Next.TheVariants.{Header, Event, Malformed, Limit}
use Rattle.dt_record.specs.declared.writes.What.{What}
use Rattle.dt_record.specs.declared.writes.What.TheVariants.{Records, Writes}
use Rattle.dt_record.specs.Spelling.{Version, half, word, record_bytes, end_bytes}
use Rattle.dt_record.specs.ProbeFile.{IsNext, AreRecords, header_bytes, no_stamps, stamped, stamps_after, records_bytes}
use Rattle.dt_record.specs.Writes.{writes_memory}
use Rattle.dt_record.specs.Answers.{Reading, opened, after_record, spelled_next, GoesOn, IsMalformed, IsTooMany, AreAnswersAfter, AreAnswers}
use Rattle.dt_probe_file.specs.Broken.{BeginWithNext, IsBrokenFile, IsPastLimit, BrokenFilesAreMalformed, LongFilesAreLimited, FrontsAreAnswered}
use Rattle.dt_probe_file.specs.Computing.{answers_after}
use Rattle.dt_probe_file.specs.OpenFronts.{IsFileFront}
use Rattle.dt_probe_file.specs.Origins.{reading_after}
use Rattle.dt_probe_file.proofs.Exists.{after_are, length-end}
use Rattle.dt_probe_file.proofs.OneAnswer.{answers_are_one}
use Rattle.dt_probe_file.proofs.Origins.{events_after, writes_after, harts_after, version_after, length_more, writing_more}

length-header : (version : Version) (harts : ℕ) (wide : Bool) → length (header_bytes version harts wide) ≡ 16
unfolding header_bytes half word
length-header version harts wide = refl

-- ---- some records, and then other answers

record Goes (s : Reading) (records : List Record) (bytes rest : List ℕ) : Type 0 where
  spelled : bytes ≡ records_bytes s.version s.last records ++ rest
  each : AreRecords s.harts s.last records
  few_records : s.events + length records ≤ 4_194_304
  few_writes : s.writes + length (filter writes_memory records) ≤ 1_048_576

goes_given : (s : Reading) (records : List Record) (bytes : List ℕ) (tail : List Next) → s.events ≤ 4_194_304 → s.writes ≤ 1_048_576
    → AreAnswersAfter s bytes (map (λ r. Event r) records ++ tail) → (rest : List ℕ) × Goes s records bytes rest × AreAnswersAfter (reading_after s records) rest tail
goes_given s [] bytes tail few_records few_writes a = (
  bytes,
  record { spelled = refl; each = tt; few_records = omega arith; few_writes = omega arith },
  a,
)
goes_given s (r ∷ records) bytes tail few_records few_writes a =
    let room_records = a.2.few_records in
    let room_writes = a.2.few_writes in
    let more = goes_given (after_record s r) records a.0 tail (omega arith) room_writes a.3 in
    let writes = length-writing r records in
    let writes_are = more.1.few_writes in
    let records_are = more.1.few_records in (
      more.0,
      record {
        spelled =
            a.1.spelled ∙ ap (λ (z : List ℕ). spelled_next s r ++ z) more.1.spelled
            ∙ sym (append_assoc (spelled_next s r) (records_bytes s.version (stamped s.last r) records) more.0);
        each = (a.1.next, more.1.each);
        few_records = omega arith;
        few_writes = omega arith;
      },
      more.2,
    )

goes_gives : (s : Reading) (records : List Record) (bytes rest : List ℕ) (tail : List Next) → Goes s records bytes rest
    → AreAnswersAfter (reading_after s records) rest tail → AreAnswersAfter s bytes (map (λ r. Event r) records ++ tail)
goes_gives s [] bytes rest tail h a = subst (λ (z : List ℕ). AreAnswersAfter s z tail) (sym h.spelled) a
goes_gives s (r ∷ records) bytes rest tail h a =
    let writes = length-writing r records in
    let writes_are = h.few_writes in
    let records_are = h.few_records in
    let behind = records_bytes s.version (stamped s.last r) records ++ rest in
    let spelled : bytes ≡ spelled_next s r ++ behind = h.spelled ∙ append_assoc (spelled_next s r) (records_bytes s.version (stamped s.last r) records) rest in (
      behind,
      record { spelled = spelled; next = h.each.0 },
      record { few_records = omega arith; few_writes = omega arith },
      goes_gives (after_record s r) records behind rest tail (record { spelled = refl; each = h.each.1; few_records = omega arith; few_writes = omega arith }) a,
    )

record Fronts (bytes : List ℕ) (version : Version) (harts : ℕ) (wide : Bool) (records : List Record) (tail : List Next) : Type 0 where
  rest : List ℕ
  front : IsFileFront bytes version harts wide records rest
  after : AreAnswersAfter (reading_after (opened version harts) records) rest tail

front_given : (bytes : List ℕ) (harts : ℕ) (wide : Bool) (records : List Record) (tail : List Next)
    → AreAnswers bytes (Header harts wide ∷ map (λ r. Event r) records ++ tail) → (version : Version) × Fronts bytes version harts wide records tail
front_given bytes harts wide records tail a =
    let h = a.1 in
    let goes = goes_given (opened a.0 harts) records h.rest tail (omega arith) (omega arith) h.after in
    let records_are = goes.1.few_records in
    let writes_are = goes.1.few_writes in (
      a.0,
      record {
        rest = goes.0;
        front = record {
          spelled =
              h.spelled ∙ ap (λ (z : List ℕ). header_bytes a.0 harts wide ++ z) goes.1.spelled
              ∙ sym (append_assoc (header_bytes a.0 harts wide) (records_bytes a.0 no_stamps records) goes.0);
          some_hart = h.some_hart;
          few_harts = h.few_harts;
          each = goes.1.each;
          few_records = omega arith;
          few_writes = omega arith;
        };
        after = goes.2;
      },
    )

front_gives : (bytes : List ℕ) (version : Version) (harts : ℕ) (wide : Bool) (records : List Record) (rest : List ℕ) (tail : List Next)
    → IsFileFront bytes version harts wide records rest → AreAnswersAfter (reading_after (opened version harts) records) rest tail
    → AreAnswers bytes (Header harts wide ∷ map (λ r. Event r) records ++ tail)
front_gives bytes version harts wide records rest tail f a =
    let records_are = f.few_records in
    let writes_are = f.few_writes in
    let behind = records_bytes version no_stamps records ++ rest in (
      version,
      record {
        some_hart = f.some_hart;
        few_harts = f.few_harts;
        rest = behind;
        spelled = f.spelled ∙ append_assoc (header_bytes version harts wide) (records_bytes version no_stamps records) rest;
        after = goes_gives (opened version harts) records behind rest tail
            (record { spelled = refl; each = f.each; few_records = omega arith; few_writes = omega arith }) a;
      },
    )

-- ---- what was read behind some records

last_after : (s : Reading) (records : List Record) → (reading_after s records).last ≡ stamps_after s.last records
last_after s [] = refl
last_after s (r ∷ rs) = last_after (after_record s r) rs

at_after : (s : Reading) (records : List Record) → (reading_after s records).at ≡ s.at + length (records_bytes s.version s.last records)
at_after s [] = omega arith
at_after s (r ∷ rs) =
    let e = at_after (after_record s r) rs in
    let both = length-append (spelled_next s r) (records_bytes s.version (stamped s.last r) rs) in
    omega arith

-- where the rest begins
begins_at : (bytes : List ℕ) (version : Version) (harts : ℕ) (wide : Bool) (records : List Record) (rest : List ℕ)
    → IsFileFront bytes version harts wide records rest → (reading_after (opened version harts) records).at + length rest ≡ length bytes
begins_at bytes version harts wide records rest f =
    let at = at_after (opened version harts) records in
    let all = ap length f.spelled in
    let outer = length-append (header_bytes version harts wide ++ records_bytes version no_stamps records) rest in
    let inner = length-append (header_bytes version harts wide) (records_bytes version no_stamps records) in
    let header = length-header version harts wide in
    omega arith

same_spelling : (v w : Version) (last stamps : ℕ → ℕ) (r : Record) → v ≡ w → last ≡ stamps → record_bytes v (last r.hart) r ≡ record_bytes w (stamps r.hart) r
same_spelling v w last stamps r version same =
    ap (λ (z : Version). record_bytes z (last r.hart) r) version ∙ ap (λ (f : ℕ → ℕ). record_bytes w (f r.hart) r) same

goes_begins : (version : Version) (harts : ℕ) (records : List Record) (bytes : List ℕ) (r : Record) (more : List ℕ)
    → GoesOn (reading_after (opened version harts) records) bytes r more → BeginWithNext version harts records bytes r more
goes_begins version harts records bytes r more goes =
    let s = reading_after (opened version harts) records in (
      subst (λ (last : ℕ → ℕ). IsNext harts last r) (last_after (opened version harts) records)
          (subst (λ (n : ℕ). IsNext n s.last r) (harts_after (opened version harts) records) goes.next),
      goes.spelled ∙ ap (λ (z : List ℕ). z ++ more)
          (same_spelling s.version version s.last (stamps_after no_stamps records) r (version_after (opened version harts) records) (last_after (opened version harts) records)),
    )

begins_goes : (version : Version) (harts : ℕ) (records : List Record) (bytes : List ℕ) (r : Record) (more : List ℕ)
    → BeginWithNext version harts records bytes r more → GoesOn (reading_after (opened version harts) records) bytes r more
begins_goes version harts records bytes r more begins =
    let s = reading_after (opened version harts) records in
    record {
      spelled = begins.1 ∙ ap (λ (z : List ℕ). z ++ more)
          (sym (same_spelling s.version version s.last (stamps_after no_stamps records) r (version_after (opened version harts) records) (last_after (opened version harts) records)));
      next = subst (λ (n : ℕ). IsNext n s.last r) (sym (harts_after (opened version harts) records))
          (subst (λ (last : ℕ → ℕ). IsNext harts last r) (sym (last_after (opened version harts) records)) begins.0);
    }

events_are : (version : Version) (harts : ℕ) (records : List Record) → (reading_after (opened version harts) records).events ≡ length records
events_are version harts records = let e = events_after (opened version harts) records in omega arith

writes_are : (version : Version) (harts : ℕ) (records : List Record) → (reading_after (opened version harts) records).writes ≡ length (filter writes_memory records)
writes_are version harts records = let e = writes_after (opened version harts) records in omega arith

ends_same : (version : Version) (harts : ℕ) (records : List Record) → end_bytes (reading_after (opened version harts) records).events ≡ end_bytes (length records)
ends_same version harts records = ap end_bytes (events_are version harts records)

-- ---- broken files

broken_given : (bytes : List ℕ) (harts : ℕ) (wide : Bool) (records : List Record) (offset : ℕ) (version : Version)
    → (f : Fronts bytes version harts wide records (Malformed offset ∷ []))
    → IsMalformed (reading_after (opened version harts) records) f.rest offset → IsBrokenFile bytes harts wide records offset
broken_given bytes harts wide records offset version f (inl is) =
    let begins = begins_at bytes version harts wide records f.rest f.front in
    let at = is.0 in
    inl (
      version,
      f.rest,
      f.front,
      record {
        no_record = λ r more begin. is.1.no_record r more (begins_goes version harts records f.rest r more begin);
        no_end = λ more ends. is.1.no_end more (ends ∙ ap (λ (z : List ℕ). z ++ more) (sym (ends_same version harts records)));
      },
      omega arith,
    )
broken_given bytes harts wide records offset version f (inr is) =
    let begins = begins_at bytes version harts wide records f.rest f.front in
    let at = is.0 in
    let spelled = is.3 ∙ ap (λ (z : List ℕ). z ++ is.1 ∷ is.2) (ends_same version harts records) in
    let long = ap length spelled in
    let parts = length-append (end_bytes (length records)) (is.1 ∷ is.2) in
    let end = length-end (length records) in
    inr (
      version,
      is.1,
      is.2,
      subst (λ (z : List ℕ). IsFileFront bytes version harts wide records z) spelled f.front,
      omega arith,
    )

broken_gives : (bytes : List ℕ) (harts : ℕ) (wide : Bool) (records : List Record) (offset : ℕ) → IsBrokenFile bytes harts wide records offset
    → AreAnswers bytes (Header harts wide ∷ map (λ r. Event r) records ++ Malformed offset ∷ [])
broken_gives bytes harts wide records offset (inl (version, rest, front, broken, at)) =
    let begins = begins_at bytes version harts wide records rest front in
    front_gives bytes version harts wide records rest (Malformed offset ∷ []) front (
      refl,
      inl (
        omega arith,
        record {
          no_record = λ r more goes. broken.no_record r more (goes_begins version harts records rest r more goes);
          no_end = λ more ends. broken.no_end more (ends ∙ ap (λ (z : List ℕ). z ++ more) (ends_same version harts records));
        },
      ),
    )
broken_gives bytes harts wide records offset (inr (version, b, rest, front, at)) =
    let begins = begins_at bytes version harts wide records (end_bytes (length records) ++ b ∷ rest) front in
    let parts = length-append (end_bytes (length records)) (b ∷ rest) in
    let end = length-end (length records) in
    front_gives bytes version harts wide records (end_bytes (length records) ++ b ∷ rest) (Malformed offset ∷ []) front
    (refl, inr (omega arith, b, rest, ap (λ (z : List ℕ). z ++ b ∷ rest) (sym (ends_same version harts records))))

pub broken-malformed : BrokenFilesAreMalformed
broken-malformed bytes harts wide records offset = (
  λ a.
      let f = front_given bytes harts wide records (Malformed offset ∷ []) a in
      broken_given bytes harts wide records offset f.0 f.1 f.1.after.1,
  broken_gives bytes harts wide records offset,
)

-- ---- files past a limit

past_given : (version : Version) (harts : ℕ) (records : List Record) (r : Record) (what : What) (number : ℕ)
    → IsTooMany (reading_after (opened version harts) records) r what number → IsPastLimit records r what number
past_given version harts records r Records number many =
    let events = events_are version harts records in
    let more = length_more records r in
    let few = many.0 in
    (omega arith, many.1)
past_given version harts records r Writes number many =
    let events = events_are version harts records in
    let writes = writes_are version harts records in
    let more = length_more records r in
    let writing = writing_more records r in
    let few = many.0 in
    let past = many.1 in
    (omega arith, omega arith, many.2)

past_gives : (version : Version) (harts : ℕ) (records : List Record) (r : Record) (what : What) (number : ℕ)
    → IsPastLimit records r what number → IsTooMany (reading_after (opened version harts) records) r what number
past_gives version harts records r Records number past =
    let events = events_are version harts records in
    let more = length_more records r in
    let many = past.0 in
    (omega arith, past.1)
past_gives version harts records r Writes number past =
    let events = events_are version harts records in
    let writes = writes_are version harts records in
    let more = length_more records r in
    let writing = writing_more records r in
    let few = past.0 in
    let many = past.1 in
    (omega arith, omega arith, past.2)

pub long-limited : LongFilesAreLimited
long-limited bytes harts wide records what number = (
  λ a.
      let f = front_given bytes harts wide records (Limit what number ∷ []) a in
      let is = f.1.after.1 in (
        f.0,
        f.1.rest,
        is.0,
        is.1,
        f.1.front,
        goes_begins f.0 harts records f.1.rest is.0 is.1 is.2,
        past_given f.0 harts records is.0 what number is.3,
      ),
  λ p.
      front_gives bytes p.0 harts wide records p.1 (Limit what number ∷ []) p.4
      (refl, (p.2, p.3, begins_goes p.0 harts records p.1 p.2 p.3 p.5, past_gives p.0 harts records p.2 what number p.6)),
)

-- ---- the front of a file, whatever follows it

pub fronts-answered : FrontsAreAnswered
fronts-answered bytes more version harts wide records rest answers f are =
    let s = reading_after (opened version harts) records in
    let later = answers_after s (rest ++ more) in
    let header = header_bytes version harts wide in
    let spelled = records_bytes version no_stamps records in
    let longer : IsFileFront (bytes ++ more) version harts wide records (rest ++ more) = record {
      spelled = ap (λ (z : List ℕ). z ++ more) f.spelled ∙ append_assoc (header ++ spelled) rest more;
      some_hart = f.some_hart;
      few_harts = f.few_harts;
      each = f.each;
      few_records = f.few_records;
      few_writes = f.few_writes;
    } in (
      later,
      answers_are_one (bytes ++ more) answers (Header harts wide ∷ map (λ r. Event r) records ++ later) are
          (front_gives (bytes ++ more) version harts wide records (rest ++ more) later longer (after_are s (rest ++ more))),
    )
