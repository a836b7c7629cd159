-- Steps of the reader: what an answer takes of those that are left, and what it tells.
use Rattle.std.proofs.Common.{◌≡◌, ℕ, ◌+◌, ◌<◌, ◌≤◌, inl, inr, Bool, List, [], ◌∷◌, ◌++◌, length, drop, Option, Some, None, IfSome, refl, sym, ap, ◌∙◌, subst, append_assoc, arith}
use Rattle.std.proofs.lemmas.List.{append-nil}
use Rattle.dt_record.specs.declared.records.Record.{Record}
use Rattle.dt_record.specs.declared.writes.What.{What}
use Rattle.dt_record.specs.declared.streams.Next.{Next}
use Rattle.dt_record.specs.declared.streams.Next.TheVariants.{Header, Event, End, Malformed, Limit, ReadFault}
use Rattle.dt_record.specs.Spelling.{Version, end_bytes}
use Rattle.dt_record.specs.ProbeFile.{IsNext, header_bytes}
use Rattle.dt_record.specs.Answers.{Reading, opened, header_fault, after_record, spelled_next, GoesOn, HasRoom, IsBroken, IsTooMany}
use Rattle.dt_record.specs.Streams.{TakesHeader, TakesRecord}
use Rattle.dt_record.specs.declared.spellings.Version.{Version as Form}
use Rattle.dt_probe_file.specs.declared.reading.Opened.{Opened}
use Rattle.dt_probe_file.specs.declared.fronts.Front.TheVariants as fronts
use Rattle.dt_probe_file.specs.declared.headers.Heading.TheVariants as headings
use Rattle.dt_record.specs.Versions.{version_of}
use Rattle.dt_probe_file.specs.Fronts.{reading_of, first_too_many, IsFront}
use Rattle.dt_probe_file.specs.Headers.{IsHeading}
use Rattle.dt_probe_file.specs.Parts.{whole}
use Rattle.dt_probe_file.specs.Progress.{ended_by, progress_of}
use Rattle.dt_probe_file.specs.Told.{AreToldOf}
use Rattle.dt_probe_file.specs.Computing.{answers_of, answers_after}
use Rattle.dt_probe_file.specs.Left.{left_of, Takes}
use Rattle.dt_probe_file.proofs.Exists.{of_are}
use Rattle.dt_probe_file.proofs.Telling.{tell_event, tell_end, tell_malformed, tell_limit, tell_header, tell_fault}

goes_further : (s : Reading) (held : List ℕ) (r : Record) (len : ℕ) (rest : List ℕ) → IsFront s held (fronts.Event r len) → GoesOn s (held ++ rest) r (drop len held ++ rest)
goes_further s held r len rest front = record {
  spelled = ap (λ (z : List ℕ). z ++ rest) front.0.spelled ∙ append_assoc (spelled_next s r) (drop len held) rest;
  next = front.0.next;
}

pub limit_over : (s : Reading) (held : List ℕ) (r : Record) (len : ℕ) (what : What) (number : ℕ) → IsFront s held (fronts.Event r len) → IsTooMany s r what (first_too_many what) → number ≡ first_too_many what → (rest : List ℕ) → answers_after s (held ++ rest) ≡ Limit what number ∷ []
limit_over s held r len what number front many is rest =
    tell_limit s (held ++ rest) what number (r, drop len held ++ rest, goes_further s held r len rest front, subst (IsTooMany s r what) (sym is) many)

pub event_over : (s t : Reading) (held behind : List ℕ) (r : Record) (len : ℕ) → IsFront s held (fronts.Event r len) → HasRoom s r → t ≡ after_record s r → behind ≡ drop len held → (rest : List ℕ) → answers_after s (held ++ rest) ≡ Event r ∷ answers_after t (behind ++ rest)
event_over s t held behind r len front room is left rest =
    tell_event s (held ++ rest) r (drop len held ++ rest) (goes_further s held r len rest front) room
    ∙ ap (λ (z : List ℕ). Event r ∷ answers_after (after_record s r) (z ++ rest)) (sym left) ∙ ap (λ (u : Reading). Event r ∷ answers_after u (behind ++ rest)) (sym is)

pub takes_record : (o n : Opened) (r : Record) → IsNext o.harts (reading_of o).last r → HasRoom (reading_of o) r → reading_of n ≡ after_record (reading_of o) r → n.harts ≡ o.harts → n.wide ≡ o.wide → TakesRecord (progress_of (Some o) None) r (progress_of (Some n) None)
takes_record o n r next room is harts wide =
    let few = room.few_records in
    let events : n.events ≡ o.events + 1 = ap (λ (s : Reading). s.events) is in
    record {
      next = next;
      harts_stay = ap (λ (k : ℕ). Some k) harts;
      wide_stays = wide;
      stamps_are = λ hart. ap (λ (s : Reading). s.last hart) is;
      one_event = events;
      few_events = omega (arith, events, few);
      one_write = ap (λ (s : Reading). s.writes) is;
      few_writes = subst (λ (k : ℕ). k ≤ 1_048_576) (sym (ap (λ (s : Reading). s.writes) is)) room.few_writes;
      open_still = refl;
    }

-- With what the source has left.

nothing_left : (o : Option Opened) (e : Option Next) → left_of o e None ≡ None
nothing_left o None = refl
nothing_left o (Some x) = refl

pub moved : (o : Option Opened) (old new : Option (List ℕ)) (answer : Next) (after : Option Opened) (left : Option (List ℕ)) → old ≡ new → Takes o old answer after left → Takes o new answer after left
moved o old new answer after left same takes = subst (λ (w : Option (List ℕ)). Takes o w answer after left) same takes

lifted : (o : Option Opened) (answer : Next) (after : Option Opened) (held behind : List ℕ) (left : Option (List ℕ)) → ((rest : List ℕ) → Takes o (Some (held ++ rest)) answer after (Some (behind ++ rest))) → Takes o (whole held left) answer after (whole behind left)
lifted o answer after held behind None takes = nothing_left after (ended_by answer)
lifted o answer after held behind (Some rest) takes = takes rest

pub lift_takes : (o : Option Opened) (answer : Next) (after : Option Opened) (held behind : List ℕ) (left old : Option (List ℕ)) → whole held left ≡ old → ((rest : List ℕ) → Takes o (Some (held ++ rest)) answer after (Some (behind ++ rest))) → Takes o old answer after (whole behind left)
lift_takes o answer after held behind left old same takes = moved o (whole held left) old answer after (whole behind left) same (lifted o answer after held behind left takes)

pub wrong_told : (o : Opened) (held : List ℕ) (left old : Option (List ℕ)) → whole held left ≡ old → IfSome left (λ rest. IsBroken (reading_of o) (held ++ rest)) → Takes (Some o) old (Malformed o.at) (Some o) (whole held left)
wrong_told o held None old same broken = moved (Some o) None old (Malformed o.at) (Some o) None same refl
wrong_told o held (Some rest) old same broken =
    moved (Some o) (Some (held ++ rest)) old (Malformed o.at) (Some o) (Some (held ++ rest)) same
    ([], tell_malformed (reading_of o) (held ++ rest) o.at (inl (refl, broken)), refl)

pub fault_told : (o after : Option Opened) (held : List ℕ) (left old : Option (List ℕ)) → whole held left ≡ old → Takes o old ReadFault after (whole held left)
fault_told o after held None old same = moved o None old ReadFault after None same refl
fault_told o after held (Some rest) old same = moved o (Some (held ++ rest)) old ReadFault after (Some (held ++ rest)) same refl

some_is_one : (x y : List ℕ) → Some x ≡ Some y → x ≡ y
some_is_one x y e = cc

followed : (o : Opened) (held now rest before : List ℕ) → held ≡ end_bytes o.events ++ drop 9 held → now ++ rest ≡ drop 9 held ++ before → 0 < length now → answers_after (reading_of o) (held ++ before) ≡ Malformed (o.at + 9) ∷ []
followed o held [] rest before ends same some = absurd (omega arith)
followed o held (b ∷ now) rest before ends same some =
    tell_malformed (reading_of o) (held ++ before) (o.at + 9)
    (inr (refl, b, now ++ rest, ap (λ (z : List ℕ). z ++ before) ends ∙ append_assoc (end_bytes o.events) (drop 9 held) before ∙ ap (λ (z : List ℕ). end_bytes o.events ++ z) (sym same)))

pub end_followed : (o : Opened) (held behind now : List ℕ) (old new : Option (List ℕ)) → IsFront (reading_of o) held fronts.End → behind ≡ drop 9 held → whole now new ≡ whole behind old → 0 < length now → Takes (Some o) (whole held old) (Malformed (o.at + 9)) (Some o) (whole now new)
end_followed o held behind now None None front is same some = refl
end_followed o held behind now None (Some rest) front is same some = absurd cc
end_followed o held behind now (Some before) None front is same some = absurd cc
end_followed o held behind now (Some before) (Some rest) front is same some =
    ([], followed o held now rest before front.0 (some_is_one _ _ same ∙ ap (λ (z : List ℕ). z ++ before) is) some, refl)

pub end_alone : (o : Opened) (held behind now : List ℕ) (old new : Option (List ℕ)) → IsFront (reading_of o) held fronts.End → behind ≡ drop 9 held → whole now new ≡ whole behind old → now ≡ [] → IfSome new (λ rest. rest ≡ []) → Takes (Some o) (whole held old) (End o.events) (Some o) (whole now new)
end_alone o held behind now None None front is same none end = refl
end_alone o held behind now None (Some rest) front is same none end = absurd cc
end_alone o held behind now (Some before) None front is same none end = absurd cc
end_alone o held behind now (Some before) (Some rest) front is same none end =
    let empty : drop 9 held ++ before ≡ [] = ap (λ (z : List ℕ). z ++ before) (sym is) ∙ sym (some_is_one _ _ same) ∙ ap (λ (z : List ℕ). z ++ rest) none ∙ end in
    let ends : held ++ before ≡ end_bytes o.events =
    ap (λ (z : List ℕ). z ++ before) front.0 ∙ append_assoc (end_bytes o.events) (drop 9 held) before ∙ ap (λ (z : List ℕ). end_bytes o.events ++ z) empty ∙ append-nil (end_bytes o.events) in
    ([], tell_end (reading_of o) (held ++ before) ends, refl)

pub header_told : (v : Form) (harts : ℕ) (wide : Bool) (o : Opened) (held behind : List ℕ) (left old : Option (List ℕ)) → IsHeading held (headings.Whole v harts wide) → reading_of o ≡ opened (version_of v) harts → behind ≡ drop 16 held → whole held left ≡ old → Takes None old (Header harts wide) (Some o) (whole behind left)
header_told v harts wide o held behind left old h is left_is same =
    lift_takes None (Header harts wide) (Some o) held behind left old same
    (λ rest. (
      answers_after (reading_of o) (behind ++ rest),
      tell_header (held ++ rest) (version_of v) harts wide (drop 16 held ++ rest) h.1 h.2 (ap (λ (z : List ℕ). z ++ rest) h.0 ∙ append_assoc (header_bytes (version_of v) harts wide) (drop 16 held) rest)
          ∙ ap (λ (z : List ℕ). Header harts wide ∷ answers_after (opened (version_of v) harts) (z ++ rest)) (sym left_is)
          ∙ ap (λ (s : Reading). Header harts wide ∷ answers_after s (behind ++ rest)) (sym is),
      refl,
    ))

pub no_header_told : (field : ℕ) (held : List ℕ) (left old : Option (List ℕ)) → whole held left ≡ old → IfSome left (λ rest. header_fault (held ++ rest) ≡ Some field) → Takes None old (Malformed field) None (whole held left)
no_header_told field held None old same wrong = moved None None old (Malformed field) None None same refl
no_header_told field held (Some rest) old same wrong =
    moved None (Some (held ++ rest)) old (Malformed field) None (Some (held ++ rest)) same ([], tell_fault (held ++ rest) field wrong, refl)

pub takes_header : (o : Opened) (harts : ℕ) (wide : Bool) (v : Version) → 1 ≤ harts → harts ≤ 8 → reading_of o ≡ opened v harts → o.harts ≡ harts → o.wide ≡ wide → TakesHeader (progress_of None None) harts wide (progress_of (Some o) None)
takes_header o harts wide v some few is harts_are wide_is = record {
  first = refl;
  some_hart = some;
  few_harts = few;
  harts_are = ap (λ (k : ℕ). Some k) harts_are;
  wide_is = wide_is;
  no_stamps = λ hart. ap (λ (s : Reading). s.last hart) is;
  no_events = ap (λ (s : Reading). s.events) is;
  no_writes = ap (λ (s : Reading). s.writes) is;
  open_still = refl;
}

-- a new stream tells the answers of all bytes
pub told_fresh : (held : List ℕ) (left : Option (List ℕ)) → held ≡ [] → AreToldOf left (left_of None None (whole held left))
told_fresh held None none = refl
told_fresh held (Some bytes) none = (answers_of bytes, ap (λ (z : List ℕ). Some (answers_of (z ++ bytes))) none, of_are bytes)
