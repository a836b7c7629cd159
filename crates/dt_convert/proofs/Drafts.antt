-- A file between two answers of its stream.
use Rattle.std.proofs.Common.{◌≡◌, ◌≢◌, ◌∙◌, ◌<◌, ◌≤◌, ◌==◌, ◌⊎◌, ℕ, Bool, true, false, cond, List, [], ◌∷◌, ◌++◌, Option, Some, None, IsSome, IfSome, length, map, slice_index, slice_set, refl, sym, ap, inl, inr, subst, append_assoc, arith}
use Rattle.std.proofs.lemmas.Bool.{cases_eq, ne_eqb}
use Rattle.std.proofs.lemmas.Bool.Decides.{nat_tests}
use Rattle.std.proofs.lemmas.List.{append-nil, length-set, get_or-set_same, get_or-set_other}
use Rattle.std.proofs.lemmas.Option.{IfSome_then}
use Rattle.dt_lists.proofs.Lists.{some_and}
use Rattle.dt_record.specs.declared.records.Record.{Record}
use Rattle.dt_record.specs.declared.streams.Next.{Next}
use Rattle.dt_record.specs.declared.streams.Next.TheVariants.{Header, Event, End, Malformed, Limit, ReadFault, OutOfMemory}
use Rattle.dt_record.specs.Spelling.{Version, record_bytes, end_bytes}
use Rattle.dt_record.specs.Lawful.{IsLawful}
use Rattle.dt_record.specs.ProbeFile.{header_bytes, records_bytes, no_stamps, stamped, stamps_after}
use Rattle.dt_record.specs.Streams.{Progress, IsFresh, TakesHeader, TakesRecord, TakesAnswer}
use Rattle.dt_reading.specs.Underway.{HasGiven, IsUnderway, so_far}
use Rattle.dt_reading.proofs.Underway as stream
use Rattle.dt_dump.specs.Dump.{records_in}
use Rattle.dt_dump.proofs.ReadRecords.{HasRead, came_last, has_read}
use Rattle.dt_convert.specs.Convert.{file_bytes, file_with}
use Rattle.dt_convert.specs.Reading.{IsFileOf, StopsAt}

-- ---- the stamps of last records

-- the spellings of records and of one more
records_bytes-more : (version : Version) (last : ℕ → ℕ) (records : List Record) (r : Record)
    → records_bytes version last (records ++ r ∷ []) ≡ records_bytes version last records ++ record_bytes version (stamps_after last records r.hart) r
records_bytes-more version last [] r = append-nil (record_bytes version (last r.hart) r)
records_bytes-more version last (q ∷ qs) r =
    let first = record_bytes version (last q.hart) q in
    ap (λ (z : List ℕ). first ++ z) (records_bytes-more version (stamped last q) qs r)
    ∙ sym (append_assoc first (records_bytes version (stamped last q) qs) (record_bytes version (stamps_after (stamped last q) qs r.hart) r))

stamped_own : (f : ℕ → ℕ) (r : Record) → stamped f r r.hart ≡ r.stamp
stamped_own f r =
    let own : (r.hart == r.hart) ≡ true = grind (arith, nat_tests) in
    ap (λ (b : Bool). cond b r.stamp (f r.hart)) own

stamped_other : (f : ℕ → ℕ) (r : Record) (hart : ℕ) → r.hart ≢ hart → stamped f r hart ≡ f hart
stamped_other f r hart other = ap (λ (b : Bool). cond b r.stamp (f hart)) (ne_eqb hart r.hart (λ e. other (sym e)))

-- ---- what is kept

-- the header and the records so far
abbrev pub front : Version → Option ℕ → Bool → List Record → List ℕ
front version None wide given = []
front version (Some harts) wide given = header_bytes version harts wide ++ records_bytes version no_stamps given

-- the stamp of each hart's last record
pub record AreStamps (stamps : List ℕ) (given : List Record) : Type 0 where
  pub eight : length stamps ≡ 8
  pub each : (hart : ℕ) → hart < 8 → slice_index stamps hart ≡ stamps_after no_stamps given hart

-- the bytes are the header and the records that came of a stream
pub record IsDraft (told left : Option (List Next)) (version : Version) (bytes stamps : List ℕ) (p : Progress) : Type 0 where
  pub harts : ℕ
  pub wide : Bool
  pub given : List Record
  pub underway : IsUnderway told left harts wide given p
  pub came : IfSome told (λ answers. HasRead answers left given)
  pub spelled : bytes ≡ front version p.harts wide given
  pub kept : AreStamps stamps given

-- ---- before the first answer

pub starts : (told : Option (List Next)) (version : Version) (stamps : List ℕ) (p : Progress) → IsFresh p → length stamps ≡ 8
    → ((hart : ℕ) → hart < 8 → slice_index stamps hart ≡ 0) → IsDraft told told version [] stamps p
starts told version stamps p fresh eight zeros = record {
  harts = 0;
  wide = false;
  given = [];
  underway = stream.starts told 0 false p fresh;
  came = has_read told told 0 false [] p (stream.starts told 0 false p fresh);
  spelled = rw fresh.no_header refl;
  kept = record { eight = eight; each = zeros };
}

-- ---- a header

spelled_header : (version : Version) (bytes : List ℕ) (given : List Record) (old new : Progress) (was : Bool) (harts : ℕ) (wide : Bool)
    → bytes ≡ front version old.harts was given → TakesHeader old harts wide new → given ≡ []
    → bytes ++ header_bytes version harts wide ≡ front version new.harts wide given
spelled_header version bytes given old new was harts wide is t none =
    let empty : bytes ≡ [] = is ∙ ap (λ (o : Option ℕ). front version o was given) t.first in
    rw (empty, t.harts_are, none) (sym (append-nil (header_bytes version harts wide)))

pub after_header : (told left after : Option (List Next)) (version : Version) (bytes stamps : List ℕ) (old new : Progress) (harts : ℕ) (wide : Bool)
    → IsDraft told left version bytes stamps old → TakesAnswer left (Header harts wide) after → TakesHeader old harts wide new
    → IsDraft told after version (bytes ++ header_bytes version harts wide) stamps new
after_header told left after version bytes stamps old new harts wide d takes t =
    let underway = stream.after_header told left after d.harts harts d.wide wide d.given old new d.underway takes t in
    record {
      harts = harts;
      wide = wide;
      given = d.given;
      underway = underway;
      came = has_read told after harts wide d.given new underway;
      spelled = spelled_header version bytes d.given old new d.wide harts wide d.spelled t (d.underway.unopened t.first);
      kept = d.kept;
    }

-- ---- a record

spelled_record : (version : Version) (bytes stamps : List ℕ) (wide : Bool) (given : List Record) (old new : Progress) (r : Record)
    → bytes ≡ front version old.harts wide given → TakesRecord old r new → slice_index stamps r.hart ≡ stamps_after no_stamps given r.hart
    → bytes ++ record_bytes version (slice_index stamps r.hart) r ≡ front version new.harts wide (given ++ r ∷ [])
spelled_record version bytes stamps wide given old new r is t stamp =
    let some = some_and old.harts _ t.next in
    let header = header_bytes version some.0 wide in
    let so_far : bytes ≡ header ++ records_bytes version no_stamps given = is ∙ ap (λ (o : Option ℕ). front version o wide given) some.1 in
    let harts : new.harts ≡ Some some.0 = t.harts_stay ∙ some.1 in
    rw (harts, so_far, stamp)
    (append_assoc header (records_bytes version no_stamps given) (record_bytes version (stamps_after no_stamps given r.hart) r)
    ∙ ap (λ (z : List ℕ). header ++ z) (sym (records_bytes-more version no_stamps given r)))

kept_record : (stamps : List ℕ) (given : List Record) (r : Record) → r.hart < 8 → AreStamps stamps given
    → AreStamps (slice_set stamps r.hart r.stamp) (given ++ r ∷ [])
kept_record stamps given r fits h = record {
  eight = length-set stamps r.hart r.stamp ∙ h.eight;
  each = λ hart below. at hart below (cases_eq r.hart hart) ∙ sym (stream.stamps_after-push no_stamps given r hart);
}
  where
    at : (hart : ℕ) → hart < 8 → (r.hart ≡ hart) ⊎ (r.hart ≢ hart)
        → slice_index (slice_set stamps r.hart r.stamp) hart ≡ stamped (stamps_after no_stamps given) r hart
    at hart below (inl same) =
        let inside : r.hart < length stamps = rw h.eight fits in
        subst (λ k. slice_index (slice_set stamps r.hart r.stamp) k ≡ stamped (stamps_after no_stamps given) r k) same
        (get_or-set_same stamps r.hart r.stamp 0 inside ∙ sym (stamped_own (stamps_after no_stamps given) r))
    at hart below (inr other) =
        get_or-set_other stamps r.hart hart r.stamp 0 (λ e. other (sym e))
        ∙ h.each hart below ∙ sym (stamped_other (stamps_after no_stamps given) r hart other)

pub after_record : (told left after : Option (List Next)) (version : Version) (bytes stamps : List ℕ) (old new : Progress) (r : Record)
    → IsDraft told left version bytes stamps old → TakesAnswer left (Event r) after → TakesRecord old r new → r.hart < 8
    → IsDraft told after version (bytes ++ record_bytes version (slice_index stamps r.hart) r) (slice_set stamps r.hart r.stamp) new
after_record told left after version bytes stamps old new r d takes t fits =
    let underway = stream.after_record told left after d.harts d.wide d.given old new r d.underway takes t in
    record {
      harts = d.harts;
      wide = d.wide;
      given = d.given ++ r ∷ [];
      underway = underway;
      came = has_read told after d.harts d.wide (d.given ++ r ∷ []) new underway;
      spelled = spelled_record version bytes stamps d.wide d.given old new r d.spelled t (d.kept.each r.hart fits);
      kept = kept_record stamps d.given r fits d.kept;
    }

pub lawful_next : (old new : Progress) (r : Record) → TakesRecord old r new → IsLawful r
lawful_next old new r t = (some_and old.harts _ t.next).2.lawful

-- its hart is one of eight
pub hart_fits : (told left : Option (List Next)) (version : Version) (bytes stamps : List ℕ) (old new : Progress) (r : Record)
    → IsDraft told left version bytes stamps old → TakesRecord old r new → r.hart < 8
hart_fits told left version bytes stamps old new r d t =
    let fits = stream.record_hart told left d.harts d.wide d.given old new r d.underway t in
    omega (arith, fits.0, fits.1)

-- the record may be spelled behind the last stamp of its hart
pub may_follow : (told left : Option (List Next)) (version : Version) (bytes stamps : List ℕ) (old new : Progress) (r : Record)
    → IsDraft told left version bytes stamps old → TakesRecord old r new → slice_index stamps r.hart ≤ r.stamp
may_follow told left version bytes stamps old new r d t =
    let some = some_and old.harts _ t.next in
    let fits = hart_fits told left version bytes stamps old new r d t in
    let same : slice_index stamps r.hart ≡ old.stamps r.hart = d.kept.each r.hart fits ∙ sym ((d.underway.opened some.0 some.1).stamps r.hart) in
    rw same some.2.stamp

-- ---- the end

some_harts : (o : Option ℕ) → IsSome o → (n : ℕ) × (o ≡ Some n)
some_harts None some = cc
some_harts (Some n) some = (n, refl)

is_file : (answers : List Next) (left after : Option (List Next)) (version : Version) (bytes : List ℕ) (wide : Bool) (given : List Record) (p : Progress) (count : ℕ)
    → HasGiven answers left (so_far p.harts wide given) → HasRead answers left given → bytes ≡ front version p.harts wide given
    → TakesAnswer left (End count) after → IsSome p.harts → count ≡ length given → IsFileOf version answers (bytes ++ end_bytes count)
is_file answers left after version bytes wide given p count came read spelled takes some counted =
    let last = came_last answers left after given (End count) read takes tt in
    let harts = some_harts p.harts some in
    let more = map (λ r. Event r) given ++ came.rest in
    let first : answers ≡ Header harts.0 wide ∷ more = came.answers_are ∙ ap (λ (o : Option ℕ). so_far o wide given ++ came.rest) harts.1 in
    let header = header_bytes version harts.0 wide in
    let until : bytes ≡ header ++ records_bytes version no_stamps given = spelled ∙ ap (λ (o : Option ℕ). front version o wide given) harts.1 in
    let records : records_in more ≡ given = ap records_in (sym first) ∙ last.0 in
    let whole : bytes ++ end_bytes count ≡ file_bytes version harts.0 wide given
    = rw (until, counted) refl in (
      count,
      last.1,
      whole ∙ ap (λ (rs : List Record). file_bytes version harts.0 wide rs) (sym records) ∙ ap (file_with version) (sym first),
    )

pub ends : (told left after : Option (List Next)) (version : Version) (bytes stamps : List ℕ) (p : Progress) (count : ℕ)
    → IsDraft told left version bytes stamps p → TakesAnswer left (End count) after → IsSome p.harts → count ≡ p.events
    → IfSome told (λ answers. IsFileOf version answers (bytes ++ end_bytes count))
ends None left after version bytes stamps p count d takes some counted = tt
ends (Some answers) left after version bytes stamps p count d takes some counted =
    let harts = some_harts p.harts some in
    is_file answers left after version bytes d.wide d.given p count d.underway.came
    d.came d.spelled takes some
    (counted ∙ sym (d.underway.opened harts.0 harts.1).events)

-- an answer at which a stream stops before its end
abbrev pub IsRefusal : Next → Type 0
IsRefusal (Header harts wide) = ⊥
IsRefusal (Event r) = ⊥
IsRefusal (End count) = ⊥
IsRefusal _ = Unit {0}

stops_at : (answers : List Next) (left after : Option (List Next)) (given : List Record) (last : Next) → HasRead answers left given
    → TakesAnswer left last after → IsRefusal last → StopsAt answers last
stops_at answers left after given (Header harts wide) h takes is = absurd is
stops_at answers left after given (Event r) h takes is = absurd is
stops_at answers left after given (End count) h takes is = absurd is
stops_at answers left after given (Malformed offset) h takes is = (came_last answers left after given (Malformed offset) h takes tt).1
stops_at answers left after given (Limit what number) h takes is = (came_last answers left after given (Limit what number) h takes tt).1
stops_at answers left after given ReadFault h takes is = tt
stops_at answers left after given OutOfMemory h takes is = tt

pub stops : (told left after : Option (List Next)) (given : List Record) (last : Next) → TakesAnswer left last after → IsRefusal last
    → IfSome told (λ answers. HasRead answers left given) → IfSome told (λ answers. StopsAt answers last)
stops told left after given last takes is came = IfSome_then told came (λ answers h. stops_at answers left after given last h takes is)

-- a stream that gives up stops anywhere
pub stops_for_memory : (told : Option (List Next)) → IfSome told (λ answers. StopsAt answers OutOfMemory)
stops_for_memory None = tt
stops_for_memory (Some answers) = tt
