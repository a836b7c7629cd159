-- A dump between two answers of its stream.
use Rattle.std.proofs.Common.{◌≡◌, ◌∙◌, ◌<◌, ◌+◌, ◌==◌, ℕ, Bool, true, false, List, [], ◌∷◌, ◌++◌, Option, Some, None, IfSome, length, cond, slice_index, slice_set, ◌⊎◌, ◌≢◌, refl, sym, ap, inl, inr, subst, add-zero, arith}
use Rattle.std.proofs.lemmas.Bool.{cases_eq, ne_eqb}
use Rattle.std.proofs.lemmas.Bool.Decides.{nat_tests}
use Rattle.std.proofs.lemmas.List.{append-nil, length-append, length-set, get_or-set_same, get_or-set_other}
use Rattle.std.proofs.lemmas.List.Elements.{filter-append}
use Rattle.std.proofs.lemmas.List.Sums.{count_by-le-length, length-filter}
use Rattle.std.proofs.lemmas.Option.{IfSome_then}
use Rattle.dt_lists.proofs.Lists.{some_and}
use Rattle.dt_source.specs.Known.{Appends}
use Rattle.dt_record.specs.declared.limits.TheConstants.{RECORD_LIMIT}
use Rattle.dt_record.specs.declared.records.Record.{Record}
use Rattle.dt_record.specs.declared.streams.Next.{Next}
use Rattle.dt_record.specs.declared.streams.Next.TheVariants.{Header, Event, OutOfMemory}
use Rattle.dt_record.specs.Keys.{records_of}
use Rattle.dt_record.specs.Streams.{Progress, IsFresh, TakesHeader, TakesRecord, TakesAnswer}
use Rattle.dt_reading.specs.Underway.{IsUnderway}
use Rattle.dt_reading.proofs.Underway as stream
use Rattle.dt_text.specs.Line.{line_text}
use Rattle.dt_dump.specs.Dump.{lines_after, record_lines, records_in}
use Rattle.dt_dump.specs.Last.{CameTo}
use Rattle.dt_dump.proofs.ReadRecords.{HasRead, IsLast, came_last, has_read}
use Rattle.dt_dump.proofs.Texts.{Appends-append, record_lines-more}

-- each hart's number of records
pub record AreCounts (counts : List ℕ) (given : List Record) : Type 0 where
  pub eight : length counts ≡ 8
  pub each : (hart : ℕ) → hart < 8 → slice_index counts hart ≡ length (records_of hart given)

-- the lines of the records that came were written, and the records of each hart counted
pub record HasDumped (told left : Option (List Next)) (before written : Option (List ℕ)) (counts : List ℕ) (p : Progress) : Type 0 where
  pub harts : ℕ
  pub wide : Bool
  pub given : List Record
  pub underway : IsUnderway told left harts wide given p
  pub came : IfSome told (λ answers. HasRead answers left given)
  pub lines : Appends before (record_lines given) written
  pub counted : AreCounts counts given

-- ---- before the first answer

-- at first there are no lines
no_lines : (written : Option (List ℕ)) → Appends written (record_lines []) written
unfolding lines_after
no_lines None = refl
no_lines (Some bytes) = ap Some (sym (append-nil bytes))

pub starts : (told : Option (List Next)) (written : Option (List ℕ)) (counts : List ℕ) (p : Progress) → IsFresh p → length counts ≡ 8
    → ((hart : ℕ) → hart < 8 → slice_index counts hart ≡ 0) → HasDumped told told written written counts p
starts told written counts p fresh eight zeros = record {
  harts = 0;
  wide = false;
  given = [];
  underway = stream.starts told 0 false p fresh;
  came = has_read told told 0 false [] p (stream.starts told 0 false p fresh);
  lines = no_lines written;
  counted = record { eight = eight; each = zeros };
}

-- ---- a header

pub after_header : (told left after : Option (List Next)) (before written : Option (List ℕ)) (counts : List ℕ) (old new : Progress) (harts : ℕ) (wide : Bool)
    → HasDumped told left before written counts old → TakesAnswer left (Header harts wide) after → TakesHeader old harts wide new
    → HasDumped told after before written counts new
after_header told left after before written counts old new harts wide u takes t =
    let underway = stream.after_header told left after u.harts harts u.wide wide u.given old new u.underway takes t in
    record {
      harts = harts;
      wide = wide;
      given = u.given;
      underway = underway;
      came = has_read told after harts wide u.given new underway;
      lines = u.lines;
      counted = u.counted;
    }

-- ---- a record

-- the record stands behind those that came
behind_read : (answers : List Next) (left after : Option (List Next)) (given : List Record) (r : Record) → TakesAnswer left (Event r) after
    → HasRead answers left given → (rest : List Next) × (records_in answers ≡ given ++ r ∷ records_in rest)
behind_read answers left after given r takes h =
    let t = subst (λ (z : Option (List Next)). TakesAnswer z (Event r) after) h.left_is takes in
    (t.0, h.records ∙ ap (λ (z : List Next). given ++ records_in z) t.1)

pub comes_next : (told left after : Option (List Next)) (given : List Record) (r : Record) → TakesAnswer left (Event r) after
    → IfSome told (λ answers. HasRead answers left given) → IfSome told (λ answers. (rest : List Next) × (records_in answers ≡ given ++ r ∷ records_in rest))
comes_next told left after given r takes came = IfSome_then told came (λ answers h. behind_read answers left after given r takes h)

count_one : (hart : ℕ) (given : List Record) (r : Record) → length (records_of hart (given ++ r ∷ [])) ≡ length (records_of hart given) + cond (r.hart == hart) 1 0
count_one hart given r =
    ap length (filter-append (λ (q : Record). q.hart == hart) given (r ∷ []))
    ∙ length-append (records_of hart given) (records_of hart (r ∷ []))
    ∙ ap (λ n. length (records_of hart given) + n) (one (r.hart == hart))
  where
    one : (b : Bool) → length (cond b (r ∷ []) []) ≡ cond b 1 0
    one true = refl
    one false = refl

counts_record : (counts : List ℕ) (given : List Record) (r : Record) → r.hart < 8 → AreCounts counts given → AreCounts (slice_set counts r.hart (slice_index counts r.hart + 1)) (given ++ r ∷ [])
counts_record counts given r fits h = record {
  eight = length-set counts r.hart (slice_index counts r.hart + 1) ∙ h.eight;
  each = λ hart below. rw (count_one hart given r) (at hart below (cases_eq r.hart hart));
}
  where
    at : (hart : ℕ) → hart < 8 → (r.hart ≡ hart) ⊎ (r.hart ≢ hart)
        → slice_index (slice_set counts r.hart (slice_index counts r.hart + 1)) hart ≡ length (records_of hart given) + cond (r.hart == hart) 1 0
    at hart below (inl same) =
        let v = slice_index counts r.hart + 1 in
        let inside : r.hart < length counts = rw h.eight fits in
        let here : slice_index (slice_set counts r.hart v) r.hart ≡ v = get_or-set_same counts r.hart v 0 inside in
        let old : slice_index counts r.hart ≡ length (records_of r.hart given) = h.each r.hart fits in
        let own : (r.hart == r.hart) ≡ true = grind (arith, nat_tests) in
        subst (λ k. slice_index (slice_set counts r.hart v) k ≡ length (records_of k given) + cond (r.hart == k) 1 0) same
        (here ∙ ap (λ n. n + 1) old ∙ ap (λ (b : Bool). length (records_of r.hart given) + cond b 1 0) (sym own))
    at hart below (inr other) =
        let v = slice_index counts r.hart + 1 in
        let there : slice_index (slice_set counts r.hart v) hart ≡ slice_index counts hart = get_or-set_other counts r.hart hart v 0 (λ e. other (sym e)) in
        let no : (r.hart == hart) ≡ false = ne_eqb r.hart hart other in
        there ∙ h.each hart below ∙ sym (add-zero (length (records_of hart given))) ∙ ap (λ (b : Bool). length (records_of hart given) + cond b 1 0) (sym no)

pub after_record : (told left after : Option (List Next)) (before middle written : Option (List ℕ)) (counts : List ℕ) (old new : Progress) (r : Record)
    → (u : HasDumped told left before middle counts old) → TakesAnswer left (Event r) after → TakesRecord old r new → r.hart < 8
    → Appends middle (line_text (slice_index counts r.hart) r) written
    → HasDumped told after before written (slice_set counts r.hart (slice_index counts r.hart + 1)) new
after_record told left after before middle written counts old new r u takes t fits line =
    let underway = stream.after_record told left after u.harts u.wide u.given old new r u.underway takes t in
    record {
      harts = u.harts;
      wide = u.wide;
      given = u.given ++ r ∷ [];
      underway = underway;
      came = has_read told after u.harts u.wide (u.given ++ r ∷ []) new underway;
      lines = subst (λ (z : List ℕ). Appends before z written) (sym (record_lines-more u.given r))
          (Appends-append before middle written (record_lines u.given) (line_text (length (records_of r.hart u.given)) r) u.lines (subst (λ (n : ℕ). Appends middle (line_text n r) written) (u.counted.each r.hart fits) line));
      counted = counts_record counts u.given r fits u.counted;
    }

-- its hart is one of eight
pub hart_fits : (told left : Option (List Next)) (harts : ℕ) (wide : Bool) (given : List Record) (old new : Progress) (r : Record)
    → IsUnderway told left harts wide given old → TakesRecord old r new → r.hart < 8
hart_fits told left harts wide given old new r u t =
    let fits = stream.record_hart told left harts wide given old new r u t in
    omega (arith, fits.0, fits.1)

-- the record's hart has room for one more
pub has_room : (told left : Option (List Next)) (harts : ℕ) (wide : Bool) (given : List Record) (counts : List ℕ) (old new : Progress) (r : Record)
    → IsUnderway told left harts wide given old → TakesRecord old r new → AreCounts counts given → slice_index counts r.hart < RECORD_LIMIT
has_room told left harts wide given counts old new r u t counted =
    let some = some_and old.harts _ t.next in
    let events : length given ≡ old.events = (u.opened some.0 some.1).events in
    let same : slice_index counts r.hart ≡ length (records_of r.hart given) = counted.each r.hart (hart_fits told left harts wide given old new r u t) in
    omega (arith, same, events, t.one_event, t.few_events, length-filter (λ (q : Record). q.hart == r.hart) given, count_by-le-length (λ (q : Record). q.hart == r.hart) given)

-- ---- the last answer

pub comes_last : (told left after : Option (List Next)) (given : List Record) (last : Next) → TakesAnswer left last after → IsLast last
    → IfSome told (λ answers. HasRead answers left given) → IfSome told (λ answers. CameTo answers given last)
comes_last told left after given last takes is came = IfSome_then told came (λ answers h. came_last answers left after given last h takes is)

-- a stream that gives up has begun with the records that came
pub comes_to_memory : (told left : Option (List Next)) (given : List Record) → IfSome told (λ answers. HasRead answers left given)
    → IfSome told (λ answers. CameTo answers given OutOfMemory)
comes_to_memory None left given came = tt
comes_to_memory (Some answers) left given came = (records_in came.rest, came.records)
