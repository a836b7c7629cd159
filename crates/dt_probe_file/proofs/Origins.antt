-- How far a stream has come in the bytes of its source.
use Rattle.std.proofs.Common.{◌≡◌, ℕ, ◌+◌, ◌≤◌, ◌⊎◌, inl, inr, Bool, cond, List, [], ◌∷◌, ◌++◌, length, drop, filter, Option, Some, None, IsNone, refl, sym, ap, ◌∙◌, subst, append_assoc, arith}
use Rattle.std.proofs.lemmas.List.{append-nil}
use Rattle.dt_source.specs.Known.{TakesFrom}
use Rattle.dt_record.proofs.CountedWrites.{length-writing}
use Rattle.dt_record.specs.declared.records.Record.{Record}
use Rattle.dt_record.specs.declared.streams.Next.{Next}
use Rattle.dt_record.specs.declared.spellings.Version.{Version as Form}
use Rattle.dt_record.specs.Spelling.{Version, end_bytes}
use Rattle.dt_record.specs.ProbeFile.{IsNext, AreRecords, header_bytes, no_stamps, stamped, records_bytes}
use Rattle.dt_record.specs.Writes.{writes_memory}
use Rattle.dt_record.specs.Versions.{version_of}
use Rattle.dt_record.specs.Answers.{Reading, opened, after_record, spelled_next, HasRoom}
use Rattle.dt_probe_file.specs.declared.reading.Opened.{Opened}
use Rattle.dt_probe_file.specs.declared.fronts.Front.TheVariants as fronts
use Rattle.dt_probe_file.specs.declared.headers.Heading.TheVariants as headings
use Rattle.dt_probe_file.specs.Asking.{LeaveOpen, HadToRead}
use Rattle.dt_probe_file.specs.Begun.{IsBegun, IsCutHeader}
use Rattle.dt_probe_file.specs.Fronts.{IsFront, reading_of}
use Rattle.dt_probe_file.specs.Headers.{IsHeading}
use Rattle.dt_probe_file.specs.OpenFronts.{IsFileFront, IsOpenFront, HasOpenFront}
use Rattle.dt_probe_file.specs.Origins.{reading_after, IsAnswered, HasOrigin, KeepsOrigin}
use Rattle.dt_probe_file.specs.Parts.{ReadsOn}
use Rattle.dt_probe_file.proofs.HeldParts.{taken_twice}

-- ---- one record more

pub events_after : (s : Reading) (records : List Record) → (reading_after s records).events ≡ s.events + length records
events_after s [] = omega arith
events_after s (r ∷ rs) = let e = events_after (after_record s r) rs in omega arith

pub writes_after : (s : Reading) (records : List Record) → (reading_after s records).writes ≡ s.writes + length (filter writes_memory records)
writes_after s [] = omega arith
writes_after s (r ∷ rs) =
    let e = writes_after (after_record s r) rs in
    let one = length-writing r rs in
    omega arith

pub harts_after : (s : Reading) (records : List Record) → (reading_after s records).harts ≡ s.harts
harts_after s [] = refl
harts_after s (r ∷ rs) = harts_after (after_record s r) rs

pub version_after : (s : Reading) (records : List Record) → (reading_after s records).version ≡ s.version
version_after s [] = refl
version_after s (r ∷ rs) = version_after (after_record s r) rs

pub reading_more : (s : Reading) (records : List Record) (r : Record) → reading_after s (records ++ r ∷ []) ≡ after_record (reading_after s records) r
reading_more s [] r = refl
reading_more s (q ∷ rs) r = reading_more (after_record s q) rs r

-- the spellings of records and of one more
bytes_more : (s : Reading) (records : List Record) (r : Record) → records_bytes s.version s.last (records ++ r ∷ []) ≡ records_bytes s.version s.last records ++ spelled_next (reading_after s records) r
bytes_more s [] r = append-nil (spelled_next s r)
bytes_more s (q ∷ rs) r =
    ap (λ (z : List ℕ). spelled_next s q ++ z) (bytes_more (after_record s q) rs r)
    ∙ sym (append_assoc (spelled_next s q) (records_bytes s.version (stamped s.last q) rs) (spelled_next (reading_after (after_record s q) rs) r))

records_more : (s : Reading) (records : List Record) (r : Record) → AreRecords s.harts s.last records → IsNext (reading_after s records).harts (reading_after s records).last r → AreRecords s.harts s.last (records ++ r ∷ [])
records_more s [] r each next = (next, tt)
records_more s (q ∷ rs) r each next = (each.0, records_more (after_record s q) rs r each.1 next)

pub length_more : (records : List Record) (r : Record) → length (records ++ r ∷ []) ≡ length records + 1
length_more [] r = refl
length_more (q ∷ rs) r = let e = length_more rs r in omega arith

pub writing_more : (records : List Record) (r : Record) → length (filter writes_memory (records ++ r ∷ [])) ≡ length (filter writes_memory records) + cond (writes_memory r) 1 0
writing_more [] r = let e = length-writing r [] in omega arith
writing_more (q ∷ rs) r =
    let e = writing_more rs r in
    let first = length-writing q rs in
    let now = length-writing q (rs ++ r ∷ []) in
    omega arith

-- the first bytes of a file with one record more
front_more : (front spelling : List ℕ) (version : Version) (harts : ℕ) (wide : Bool) (records : List Record) (r : Record)
    → IsFileFront front version harts wide records []
    → IsNext (reading_after (opened version harts) records).harts (reading_after (opened version harts) records).last r
    → HasRoom (reading_after (opened version harts) records) r
    → spelling ≡ spelled_next (reading_after (opened version harts) records) r
    → IsFileFront (front ++ spelling) version harts wide (records ++ r ∷ []) []
front_more front spelling version harts wide records r f next room is =
    let s = opened version harts in
    let events = events_after s (records ++ r ∷ []) in
    let writes = writes_after s (records ++ r ∷ []) in
    let events_are : (reading_after s (records ++ r ∷ [])).events ≡ (after_record (reading_after s records) r).events = ap (λ (t : Reading). t.events) (reading_more s records r) in
    let writes_are : (reading_after s (records ++ r ∷ [])).writes ≡ (after_record (reading_after s records) r).writes = ap (λ (t : Reading). t.writes) (reading_more s records r) in
    let few_records = room.few_records in
    let few_writes = room.few_writes in
    let was : front ≡ header_bytes version harts wide ++ records_bytes version no_stamps records =
    f.spelled ∙ append-nil (header_bytes version harts wide ++ records_bytes version no_stamps records) in
    let now : records_bytes version no_stamps records ++ spelling ≡ records_bytes version no_stamps (records ++ r ∷ []) =
    ap (λ (z : List ℕ). records_bytes version no_stamps records ++ z) is ∙ sym (bytes_more s records r) in
    record {
      spelled =
          ap (λ (z : List ℕ). z ++ spelling) was ∙ append_assoc (header_bytes version harts wide) (records_bytes version no_stamps records) spelling
          ∙ ap (λ (z : List ℕ). header_bytes version harts wide ++ z) now
          ∙ sym (append-nil (header_bytes version harts wide ++ records_bytes version no_stamps (records ++ r ∷ [])));
      some_hart = f.some_hart;
      few_harts = f.few_harts;
      each = records_more s records r f.each next;
      few_records = omega arith;
      few_writes = omega arith;
    }

-- ---- answers

pub keep_reads : (opened : Option Opened) (held grown : List ℕ) (before after : Option (List ℕ)) → ReadsOn held before grown after → KeepsOrigin opened held before opened None grown after
keep_reads opened held grown before after reads bytes origin =
    let front = origin.2 refl in (
      origin.0 ++ reads.0,
      taken_twice bytes before after origin.0 reads.0 origin.1 reads.2,
      λ _. (
        front.0,
        ap (λ (z : List ℕ). z ++ reads.0) front.1 ∙ append_assoc front.0 held reads.0 ∙ ap (λ (z : List ℕ). front.0 ++ z) (sym reads.1),
        front.2,
      ),
    )

-- the last answer
pub keep_end : (opened after : Option Opened) (held behind more : List ℕ) (answer : Next) (before left : Option (List ℕ)) → TakesFrom before more left → KeepsOrigin opened held before after (Some answer) behind left
keep_end opened after held behind more answer before left takes bytes origin = (
  origin.0 ++ more,
  taken_twice bytes before left origin.0 more origin.1 takes,
  λ same. absurd cc,
)

-- bytes are taken to what was answered before
keep_taken : (opened after : Option Opened) (held mid behind : List ℕ) (left : Option (List ℕ)) → held ≡ mid ++ behind → ((front : List ℕ) → IsAnswered opened front → IsAnswered after (front ++ mid)) → KeepsOrigin opened held left after None behind left
keep_taken opened after held mid behind left is goes_on bytes origin =
    let front = origin.2 refl in (
      origin.0,
      origin.1,
      λ _. (
        front.0 ++ mid,
        front.1 ∙ ap (λ (z : List ℕ). front.0 ++ z) is ∙ sym (append_assoc front.0 mid behind),
        goes_on front.0 front.2,
      ),
    )

same_answered : (o n : Opened) (front : List ℕ) (records : List Record) → version_of n.version ≡ version_of o.version → n.harts ≡ o.harts → n.wide ≡ o.wide → IsFileFront front (version_of o.version) o.harts o.wide records [] → reading_of n ≡ reading_after (opened (version_of o.version) o.harts) records → IsAnswered (Some n) front
same_answered o n front records version harts wide f is = (
  records,
  subst (λ (b : Bool). IsFileFront front (version_of n.version) n.harts b records []) (sym wide)
      (subst (λ (k : ℕ). IsFileFront front (version_of n.version) k o.wide records []) (sym harts)
      (subst (λ (v : Version). IsFileFront front v o.harts o.wide records []) (sym version) f)),
  is ∙ ap (λ (v : Version). reading_after (opened v o.harts) records) (sym version)
      ∙ ap (λ (k : ℕ). reading_after (opened (version_of n.version) k) records) (sym harts),
)

event_answered : (o n : Opened) (r : Record) (front : List ℕ) → IsNext o.harts (reading_of o).last r → HasRoom (reading_of o) r → reading_of n ≡ after_record (reading_of o) r → n.harts ≡ o.harts → n.wide ≡ o.wide → IsAnswered (Some o) front → IsAnswered (Some n) (front ++ spelled_next (reading_of o) r)
event_answered o n r front next room is harts wide answered =
    let s = reading_after (opened (version_of o.version) o.harts) answered.0 in
    same_answered o n (front ++ spelled_next (reading_of o) r) (answered.0 ++ r ∷ []) (ap (λ (t : Reading). t.version) is) harts wide
    (front_more front (spelled_next (reading_of o) r) (version_of o.version) o.harts o.wide answered.0 r answered.1
    (subst (λ (t : Reading). IsNext t.harts t.last r) answered.2 next)
    (subst (λ (t : Reading). HasRoom t r) answered.2 room)
    (ap (λ (t : Reading). spelled_next t r) answered.2))
    (is ∙ ap (λ (t : Reading). after_record t r) answered.2 ∙ sym (reading_more (opened (version_of o.version) o.harts) answered.0 r))

pub keep_event : (o n : Opened) (r : Record) (len : ℕ) (held behind : List ℕ) (left : Option (List ℕ)) → IsFront (reading_of o) held (fronts.Event r len) → HasRoom (reading_of o) r → reading_of n ≡ after_record (reading_of o) r → n.harts ≡ o.harts → n.wide ≡ o.wide → behind ≡ drop len held → KeepsOrigin (Some o) held left (Some n) None behind left
keep_event o n r len held behind left front room is harts wide rest =
    keep_taken (Some o) (Some n) held (spelled_next (reading_of o) r) behind left
    (front.0.spelled ∙ ap (λ (z : List ℕ). spelled_next (reading_of o) r ++ z) (sym rest))
    (λ bytes answered. event_answered o n r bytes front.0.next room is harts wide answered)

header_answered : (v : Form) (harts : ℕ) (wide : Bool) (o : Opened) (front : List ℕ) → 1 ≤ harts → harts ≤ 8 → reading_of o ≡ opened (version_of v) harts → o.harts ≡ harts → o.wide ≡ wide → front ≡ [] → IsAnswered (Some o) (front ++ header_bytes (version_of v) harts wide)
header_answered v harts wide o front some few is harts_are wide_is none =
    let version : version_of o.version ≡ version_of v = ap (λ (t : Reading). t.version) is in
    let f : IsFileFront (front ++ header_bytes (version_of v) harts wide) (version_of v) harts wide [] [] = record {
      spelled = ap (λ (z : List ℕ). z ++ header_bytes (version_of v) harts wide) none ∙ sym (append-nil (header_bytes (version_of v) harts wide))
          ∙ sym (append-nil (header_bytes (version_of v) harts wide ++ []));
      some_hart = some;
      few_harts = few;
      each = tt;
      few_records = omega arith;
      few_writes = omega arith;
    } in (
      [],
      subst (λ (b : Bool). IsFileFront (front ++ header_bytes (version_of v) harts wide) (version_of o.version) o.harts b [] []) (sym wide_is)
          (subst (λ (k : ℕ). IsFileFront (front ++ header_bytes (version_of v) harts wide) (version_of o.version) k wide [] []) (sym harts_are)
          (subst (λ (u : Version). IsFileFront (front ++ header_bytes (version_of v) harts wide) u harts wide [] []) (sym version) f)),
      is ∙ ap (λ (u : Version). opened u harts) (sym version) ∙ ap (λ (k : ℕ). opened (version_of o.version) k) (sym harts_are),
    )

pub keep_header : (v : Form) (harts : ℕ) (wide : Bool) (o : Opened) (held behind : List ℕ) (left : Option (List ℕ)) → IsHeading held (headings.Whole v harts wide) → reading_of o ≡ opened (version_of v) harts → o.harts ≡ harts → o.wide ≡ wide → behind ≡ drop 16 held → KeepsOrigin None held left (Some o) None behind left
keep_header v harts wide o held behind left h is harts_are wide_is rest =
    keep_taken None (Some o) held (header_bytes (version_of v) harts wide) behind left
    (h.0 ∙ ap (λ (z : List ℕ). header_bytes (version_of v) harts wide ++ z) (sym rest))
    (λ front none. header_answered v harts wide o front h.1 h.2 is harts_are wide_is none)

-- an answer of a stream that was not over
pub step_kept : (opened after : Option Opened) (ended now next : Option Next) (held behind : List ℕ) (left rest : Option (List ℕ)) → IsNone ended → now ≡ next → KeepsOrigin opened held left after next behind rest → (bytes : Option (List ℕ)) → HasOrigin bytes opened ended held left → HasOrigin bytes after now behind rest
step_kept opened after None now next held behind left rest going same keeps bytes origin =
    subst (λ (e : Option Next). HasOrigin bytes after e behind rest) (sym same) (keeps bytes origin)
step_kept opened after (Some answer) now next held behind left rest going same keeps bytes origin = absurd cc

-- ---- a read that failed

events_answered : (o : Opened) (records : List Record) → reading_of o ≡ reading_after (opened (version_of o.version) o.harts) records → o.events ≡ length records
events_answered o records is =
    let same = ap (λ (s : Reading). s.events) is in
    let count = events_after (opened (version_of o.version) o.harts) records in
    omega arith

ends_there : (o : Opened) (records : List Record) (rest : List ℕ) → o.events ≡ length records → LeaveOpen (Some o) rest → IsBegun (version_of o.version) rest ⊎ (rest ≡ end_bytes (length records))
ends_there o records rest events (inl begun) = inl begun
ends_there o records rest events (inr ends) = inr (ends ∙ ap end_bytes events)

open_front : (opened : Option Opened) (front rest : List ℕ) → IsAnswered opened front → LeaveOpen opened rest → IsOpenFront (front ++ rest)
open_front None front rest none leaves = inl (subst IsCutHeader (ap (λ (z : List ℕ). z ++ rest) (sym none)) leaves)
open_front (Some o) front rest answered leaves =
    let f = answered.1 in
    let records = answered.0 in
    let header = header_bytes (version_of o.version) o.harts o.wide in
    let spelled = records_bytes (version_of o.version) no_stamps records in
    inr (
      version_of o.version,
      o.harts,
      o.wide,
      records,
      rest,
      record {
        spelled = ap (λ (z : List ℕ). z ++ rest) (f.spelled ∙ append-nil (header ++ spelled));
        some_hart = f.some_hart;
        few_harts = f.few_harts;
        each = f.each;
        few_records = f.few_records;
        few_writes = f.few_writes;
      },
      ends_there o records rest (events_answered o records answered.2) leaves,
    )

pub open_at_fault : (opened : Option Opened) (ended : Option Next) (held : List ℕ) (bytes before after : Option (List ℕ)) → IsNone ended → HasOrigin bytes opened ended held before → HadToRead opened held before after → HasOpenFront bytes after
open_at_fault opened (Some answer) held bytes before after going origin had = absurd cc
open_at_fault opened None held bytes before after going origin had =
    let front = origin.2 refl in
    let spelled : origin.0 ++ had.0 ≡ front.0 ++ (held ++ had.0) = ap (λ (z : List ℕ). z ++ had.0) front.1 ∙ append_assoc front.0 held had.0 in (
      origin.0 ++ had.0,
      taken_twice bytes before after origin.0 had.0 origin.1 had.1,
      subst IsOpenFront (sym spelled) (open_front opened front.0 (held ++ had.0) front.2 had.2),
    )

-- a new stream is one of the bytes of its source
pub fresh_origin : (held : List ℕ) (left : Option (List ℕ)) → held ≡ [] → HasOrigin left None None held left
fresh_origin held None none = ([], refl, λ _. ([], sym none, refl))
fresh_origin held (Some bytes) none = ([], refl, λ _. ([], sym none, refl))
