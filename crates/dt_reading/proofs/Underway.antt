-- A stream between two of its answers.
use Rattle.std.proofs.Common.{◌≡◌, ◌∙◌, ◌<◌, ◌≤◌, ◌+◌, ◌==◌, ◌≢◌, ℕ, Bool, true, false, List, [], ◌∷◌, ◌++◌, Option, Some, None, IsSome, IfSome, length, cond, map, filter, refl, sym, ap, subst, append_assoc, arith}
use Rattle.std.proofs.lemmas.List.{length-append, map-append}
use Rattle.std.proofs.lemmas.List.Elements.{filter-append}
use Rattle.dt_lists.proofs.Lists.{some_and}
use Rattle.dt_record.specs.declared.records.Record.{Record}
use Rattle.dt_record.specs.declared.streams.Next.{Next}
use Rattle.dt_record.specs.declared.streams.Next.TheVariants.{Header, Event, End, Malformed, Limit, ReadFault, OutOfMemory}
use Rattle.dt_record.specs.ProbeFile.{AreRecords, IsNext, no_stamps, stamped, stamps_after}
use Rattle.dt_record.specs.Streams.{Progress, IsFresh, TakesHeader, TakesRecord, TakesAnswer, EndsWith}
use Rattle.dt_record.specs.Writes.{writes_memory}
use Rattle.dt_verdict.specs.declared.answers.Refusal.{Refusal}
use Rattle.dt_reading.specs.Reading.{HasCome, first_answers, refusal_in, with_header}
use Rattle.dt_reading.specs.Underway.{HasGiven, HaveBegun, IsBehindHeader, IsOpened, IsUnderway, remaining, so_far}

-- what is told of the answers, changed
pub told_map : (told : Option (List Next)) (P Q : List Next → Type 0) → IfSome told P → ((answers : List Next) → P answers → Q answers) → IfSome told Q
told_map None P Q h go = tt
told_map (Some answers) P Q h go = go answers h

some : {A : Type 0} (o : Option A) → IsSome o → (x : A) × (o ≡ Some x)
some None h = absurd (cc)
some (Some x) h = (x, refl)

-- ---- before the first answer

come_first : (told : Option (List Next)) (o : Option ℕ) (wide : Bool) → o ≡ None → IfSome told (λ answers. HasGiven answers told (so_far o wide []))
come_first None o wide none = tt
come_first (Some answers) o wide none = record { rest = answers; left_is = refl; answers_are = ap (λ z. so_far z wide [] ++ answers) (sym none) }

pub starts : (told : Option (List Next)) (harts : ℕ) (wide : Bool) (p : Progress) → IsFresh p → IsUnderway told told harts wide [] p
starts told harts wide p fresh = record {
  came = come_first told p.harts wide fresh.no_header;
  open_still = fresh.open_still;
  unopened = λ _. refl;
  opened = λ h is. let bad : None ≡ Some h = sym fresh.no_header ∙ is in cc;
}

-- behind the header: it came, and no record
come_behind : (harts : ℕ) (wide : Bool) (left : Option (List Next)) (o : Option ℕ) → o ≡ Some harts
    → IfSome (with_header harts wide left) (λ answers. HasGiven answers left (so_far o wide []))
come_behind harts wide None o is = tt
come_behind harts wide (Some rest) o is = record { rest = rest; left_is = refl; answers_are = ap (λ z. so_far z wide [] ++ rest) (sym is) }

pub starts_behind : (harts : ℕ) (wide : Bool) (left : Option (List Next)) (p : Progress) → IsBehindHeader harts wide p
    → IsUnderway (with_header harts wide left) left harts wide [] p
starts_behind harts wide left p b = record {
  came = come_behind harts wide left p.harts b.harts_are;
  open_still = b.open_still;
  unopened = λ _. refl;
  opened = λ h is.
      let same : Some h ≡ Some harts = sym is ∙ b.harts_are in
      let e : h ≡ harts = cc in record {
        harts_are = e;
        wide_is = b.wide_is;
        some_hart = omega (arith, e, b.some_hart);
        few_harts = omega (arith, e, b.few_harts);
        each = tt;
        stamps = b.no_stamps;
        events = sym b.no_events;
        few_events = omega (arith, b.no_events);
        writes = sym b.no_writes;
        few_writes = omega (arith, b.no_writes);
      };
}

-- ---- an answer

-- an answer that does not give up is the first of those that are left
takes_told : (answers : List Next) (answer : Next) (after : Option (List Next)) → TakesAnswer (Some answers) answer after → answer ≢ ReadFault → answer ≢ OutOfMemory
    → (rest : List Next) × (answers ≡ answer ∷ rest) × (after ≡ Some rest)
takes_told answers (Header harts wide) after takes read memory = takes
takes_told answers (Event r) after takes read memory = takes
takes_told answers (End count) after takes read memory = takes
takes_told answers (Malformed offset) after takes read memory = takes
takes_told answers (Limit what number) after takes read memory = takes
takes_told answers ReadFault after takes read memory = absurd (read refl)
takes_told answers OutOfMemory after takes read memory = absurd (memory refl)

gives_next : (answers : List Next) (left after : Option (List Next)) (given : List Next) (answer : Next) → TakesAnswer left answer after → answer ≢ ReadFault → answer ≢ OutOfMemory
    → HasGiven answers left given → HasGiven answers after (given ++ answer ∷ [])
gives_next answers left after given answer takes read memory h =
    let t = takes_told h.rest answer after (subst (λ (z : Option (List Next)). TakesAnswer z answer after) h.left_is takes) read memory in
    record {
      rest = t.0;
      left_is = t.2;
      answers_are = h.answers_are ∙ ap (λ (z : List Next). given ++ z) t.1 ∙ sym (append_assoc given (answer ∷ []) t.0);
    }

-- the answers that came, and this one
comes_next : (told left after : Option (List Next)) (given next : List Next) (answer : Next) → TakesAnswer left answer after → answer ≢ ReadFault → answer ≢ OutOfMemory
    → given ++ answer ∷ [] ≡ next → IfSome told (λ answers. HasGiven answers left given) → IfSome told (λ answers. HasGiven answers after next)
comes_next told left after given next answer takes read memory is came =
    told_map told (λ answers. HasGiven answers left given) (λ answers. HasGiven answers after next) came (λ answers h.
    subst (λ (z : List Next). HasGiven answers after z) is (gives_next answers left after given answer takes read memory h))

-- ---- a header

pub after_header : (told left after : Option (List Next)) (harts h : ℕ) (wide w : Bool) (records : List Record) (old new : Progress)
    → IsUnderway told left harts wide records old → TakesAnswer left (Header h w) after → TakesHeader old h w new → IsUnderway told after h w records new
after_header told left after harts h wide w records old new u takes t =
    let none : records ≡ [] = u.unopened t.first in
    record {
      came = comes_next told left after (so_far old.harts wide records) (so_far new.harts w records) (Header h w) takes (λ e. cc) (λ e. cc)
          (ap (λ (z : Option ℕ). so_far z wide records ++ Header h w ∷ []) t.first
          ∙ ap (λ (z : List Record). first_answers h w z) (sym none)
          ∙ ap (λ (z : Option ℕ). so_far z w records) (sym t.harts_are))
          u.came;
      open_still = t.open_still;
      unopened = λ e. let bad : Some h ≡ None = sym t.harts_are ∙ e in cc;
      opened = λ k is. record {
        harts_are = let same : Some k ≡ Some h = sym is ∙ t.harts_are in cc;
        wide_is = t.wide_is;
        some_hart = let same : Some k ≡ Some h = sym is ∙ t.harts_are in let e : k ≡ h = cc in omega (arith, t.some_hart);
        few_harts = let same : Some k ≡ Some h = sym is ∙ t.harts_are in let e : k ≡ h = cc in omega (arith, t.few_harts);
        each = subst (λ (z : List Record). AreRecords k no_stamps z) (sym none) tt;
        stamps = λ hart. t.no_stamps hart ∙ ap (λ (z : List Record). stamps_after no_stamps z hart) (sym none);
        events = ap length none ∙ sym t.no_events;
        few_events = omega (arith, t.no_events);
        writes = ap (λ (z : List Record). length (filter writes_memory z)) none ∙ sym t.no_writes;
        few_writes = omega (arith, t.no_writes);
      };
    }

pub fewer_after_header : (old new : Progress) (harts : ℕ) (wide : Bool) → TakesHeader old harts wide new → remaining new < remaining old
fewer_after_header old new harts wide t = rw (t.first, t.harts_are) (omega arith)

-- ---- a record

pub stamps_after-push : (last : ℕ → ℕ) (rs : List Record) (r : Record) (hart : ℕ) → stamps_after last (rs ++ r ∷ []) hart ≡ stamped (stamps_after last rs) r hart
stamps_after-push last [] r hart = refl
stamps_after-push last (q ∷ qs) r hart = stamps_after-push (stamped last q) qs r hart

AreRecords-push : (harts : ℕ) (last : ℕ → ℕ) (rs : List Record) (r : Record) → AreRecords harts last rs → IsNext harts (stamps_after last rs) r → AreRecords harts last (rs ++ r ∷ [])
AreRecords-push harts last [] r are is = (is, tt)
AreRecords-push harts last (q ∷ qs) r are is = (are.0, AreRecords-push harts (stamped last q) qs r are.1 is)

IsNext-after : (harts : ℕ) (last other : ℕ → ℕ) (r : Record) → last r.hart ≡ other r.hart → IsNext harts last r → IsNext harts other r
IsNext-after harts last other r same next = record {
  fits = next.fits;
  lawful = next.lawful;
  hart = next.hart;
  stamp = omega (arith, same, next.stamp);
}

stamped-same : (last other : ℕ → ℕ) (r : Record) (hart : ℕ) → last hart ≡ other hart → stamped last r hart ≡ stamped other r hart
stamped-same last other r hart same = ap (λ z. cond (hart == r.hart) r.stamp z) same

writes-push : (rs : List Record) (r : Record) → length (filter writes_memory (rs ++ r ∷ [])) ≡ length (filter writes_memory rs) + cond (writes_memory r) 1 0
writes-push rs r =
    ap length (filter-append writes_memory rs (r ∷ []))
    ∙ length-append (filter writes_memory rs) (filter writes_memory (r ∷ []))
    ∙ ap (λ n. length (filter writes_memory rs) + n) (one (writes_memory r))
  where
    one : (b : Bool) → length (cond b (r ∷ []) []) ≡ cond b 1 0
    one true = refl
    one false = refl

opened_record : (h harts : ℕ) (wide : Bool) (records : List Record) (old new : Progress) (r : Record) → old.harts ≡ Some h → TakesRecord old r new → IsOpened h harts wide records old
    → IsOpened h harts wide (records ++ r ∷ []) new
opened_record h harts wide records old new r is t o =
    let next = some_and old.harts _ t.next in
    let same : next.0 ≡ h = let e : Some next.0 ≡ Some h = sym next.1 ∙ is in cc in
    record {
      harts_are = o.harts_are;
      wide_is = t.wide_stays ∙ o.wide_is;
      some_hart = o.some_hart;
      few_harts = o.few_harts;
      each = AreRecords-push h no_stamps records r o.each
          (IsNext-after h old.stamps (stamps_after no_stamps records) r (o.stamps r.hart) (subst (λ n. IsNext n old.stamps r) same next.2));
      stamps = λ hart. t.stamps_are hart ∙ stamped-same old.stamps (stamps_after no_stamps records) r hart (o.stamps hart) ∙ sym (stamps_after-push no_stamps records r hart);
      events = length-append records (r ∷ []) ∙ ap (λ n. n + 1) o.events ∙ sym t.one_event;
      few_events = t.few_events;
      writes = writes-push records r ∙ ap (λ n. n + cond (writes_memory r) 1 0) o.writes ∙ sym t.one_write;
      few_writes = t.few_writes;
    }

so_far-push : (o : Option ℕ) (h : ℕ) (wide : Bool) (records : List Record) (r : Record) → o ≡ Some h → so_far o wide records ++ Event r ∷ [] ≡ so_far o wide (records ++ r ∷ [])
so_far-push None h wide records r is = cc
so_far-push (Some harts) h wide records r is = ap (λ (z : List Next). Header harts wide ∷ z) (sym (map-append (λ (q : Record). Event q) records (r ∷ [])))

pub after_record : (told left after : Option (List Next)) (harts : ℕ) (wide : Bool) (records : List Record) (old new : Progress) (r : Record)
    → IsUnderway told left harts wide records old → TakesAnswer left (Event r) after → TakesRecord old r new
    → IsUnderway told after harts wide (records ++ r ∷ []) new
after_record told left after harts wide records old new r u takes t =
    let next = some_and old.harts _ t.next in
    record {
      came = comes_next told left after (so_far old.harts wide records) (so_far new.harts wide (records ++ r ∷ [])) (Event r) takes (λ e. cc) (λ e. cc)
          (so_far-push old.harts next.0 wide records r next.1 ∙ ap (λ (z : Option ℕ). so_far z wide (records ++ r ∷ [])) (sym t.harts_stay))
          u.came;
      open_still = t.open_still;
      unopened = λ e. let bad : Some next.0 ≡ None = sym next.1 ∙ sym t.harts_stay ∙ e in cc;
      opened = λ h is. let was : old.harts ≡ Some h = sym t.harts_stay ∙ is in opened_record h harts wide records old new r was t (u.opened h was);
    }

pub fewer_after_record : (old new : Progress) (r : Record) → TakesRecord old r new → remaining new < remaining old
fewer_after_record old new r t =
    let next = some_and old.harts _ t.next in
    let new_some : new.harts ≡ Some next.0 = t.harts_stay ∙ next.1 in
    rw (next.1, new_some) (omega (arith, t.one_event, t.few_events))

-- the record's hart is one of the stream's
pub record_hart : (told left : Option (List Next)) (harts : ℕ) (wide : Bool) (records : List Record) (old new : Progress) (r : Record)
    → IsUnderway told left harts wide records old → TakesRecord old r new → (r.hart < harts) × (harts ≤ 8)
record_hart told left harts wide records old new r u t =
    let next = some_and old.harts _ t.next in
    let o = u.opened next.0 next.1 in
    (omega (arith, o.harts_are, next.2.hart), omega (arith, o.harts_are, o.few_harts))

-- ---- the last answer

ends : (told left after : Option (List Next)) (given next : List Next) (answer : Next) → TakesAnswer left answer after → answer ≢ ReadFault → answer ≢ OutOfMemory
    → given ≡ next → IfSome told (λ answers. HasGiven answers left given) → IfSome told (λ answers. (more : List Next) × (answers ≡ next ++ answer ∷ more))
ends told left after given next answer takes read memory is came =
    told_map told (λ answers. HasGiven answers left given) (λ answers. (more : List Next) × (answers ≡ next ++ answer ∷ more)) came (λ answers h.
    let t = takes_told h.rest answer after (subst (λ (z : Option (List Next)). TakesAnswer z answer after) h.left_is takes) read memory in
    (t.0, h.answers_are ∙ ap (λ (z : List Next). given ++ z) t.1 ∙ ap (λ (z : List Next). z ++ answer ∷ t.0) is))

pub at_end : (told left after : Option (List Next)) (harts count : ℕ) (wide : Bool) (records : List Record) (old new : Progress)
    → IsUnderway told left harts wide records old → TakesAnswer left (End count) after → IsSome old.harts × (count ≡ old.events) × EndsWith old (End count) new
    → HasCome told new harts wide records
at_end told left after harts count wide records old new u takes step =
    let header = some old.harts step.0 in
    let o = u.opened header.0 header.1 in
    let is : old.harts ≡ Some harts = header.1 ∙ ap (λ n. Some n) o.harts_are in
    let all : End count ≡ End (length records) = ap (λ n. End n) (step.1 ∙ sym o.events) in
    record {
      answers = subst (λ (z : Next). IfSome told (λ answers. (more : List Next) × (answers ≡ first_answers harts wide records ++ z ∷ more))) all
          (ends told left after (so_far old.harts wide records) (first_answers harts wide records) (End count) takes (λ e. cc) (λ e. cc) (ap (λ (z : Option ℕ). so_far z wide records) is) u.came);
      harts_are = step.2.harts_stay ∙ is;
      wide_is = step.2.wide_stays ∙ o.wide_is;
      ended = step.2.ended_is ∙ ap (λ (z : Next). Some z) all;
      streamed = record {
        some_hart = omega (arith, o.harts_are, o.some_hart);
        few_harts = omega (arith, o.harts_are, o.few_harts);
        each = subst (λ n. AreRecords n no_stamps records) o.harts_are o.each;
        few_records = omega (arith, o.events, o.few_events);
        few_writes = omega (arith, o.writes, o.few_writes);
      };
    }

-- ---- refusals

refusal-events : (rs : List Record) (rest : List Next) → refusal_in (map (λ r. Event r) rs ++ rest) ≡ refusal_in rest
refusal-events [] rest = refl
refusal-events (q ∷ qs) rest = refusal-events qs rest

refusal-so_far : (o : Option ℕ) (wide : Bool) (records : List Record) (rest : List Next) → refusal_in (so_far o wide records ++ rest) ≡ refusal_in rest
refusal-so_far None wide records rest = refl
refusal-so_far (Some harts) wide records rest = refusal-events records rest

-- the records are refused where the next answer is a refusal
pub refused : (told left after : Option (List Next)) (harts : ℕ) (wide : Bool) (records : List Record) (p : Progress) (answer : Next) (r : Refusal)
    → IsUnderway told left harts wide records p → TakesAnswer left answer after → answer ≢ ReadFault → answer ≢ OutOfMemory
    → ((more : List Next) → refusal_in (answer ∷ more) ≡ Some r) → IfSome told (λ answers. refusal_in answers ≡ Some r)
refused told left after harts wide records p answer r u takes read memory is =
    let given = so_far p.harts wide records in
    told_map told (λ answers. (more : List Next) × (answers ≡ given ++ answer ∷ more)) (λ answers. refusal_in answers ≡ Some r)
    (ends told left after given given answer takes read memory refl u.came)
    (λ answers h. ap refusal_in h.1 ∙ refusal-so_far p.harts wide records (answer ∷ h.0) ∙ is h.0)

-- a stream that came to its end is not refused
pub accepted : (told : Option (List Next)) (p : Progress) (harts : ℕ) (wide : Bool) (records : List Record) → HasCome told p harts wide records
    → IfSome told (λ answers. refusal_in answers ≡ None)
accepted told p harts wide records came =
    told_map told (λ answers. (more : List Next) × (answers ≡ first_answers harts wide records ++ End (length records) ∷ more)) (λ answers. refusal_in answers ≡ None) came.answers
    (λ answers h. ap refusal_in h.1 ∙ refusal-events records (End (length records) ∷ h.0))

-- ---- what came so far

pub has_begun : (told left : Option (List Next)) (harts : ℕ) (wide : Bool) (records : List Record) (p : Progress) → p.harts ≡ Some harts
    → IsUnderway told left harts wide records p → HaveBegun told harts wide records
has_begun told left harts wide records p headed u = record {
  answers = told_map told (λ answers. HasGiven answers left (so_far p.harts wide records)) (λ answers. (more : List Next) × (answers ≡ first_answers harts wide records ++ more)) u.came
      (λ answers h. (h.rest, h.answers_are ∙ ap (λ (o : Option ℕ). so_far o wide records ++ h.rest) headed));
  each = (u.opened harts headed).each;
}

pub come_has_begun : (told : Option (List Next)) (p : Progress) (harts : ℕ) (wide : Bool) (records : List Record) → HasCome told p harts wide records
    → HaveBegun told harts wide records
come_has_begun told p harts wide records came = record {
  answers = told_map told (λ answers. (more : List Next) × (answers ≡ first_answers harts wide records ++ End (length records) ∷ more))
      (λ answers. (more : List Next) × (answers ≡ first_answers harts wide records ++ more)) came.answers
      (λ answers h. (End (length records) ∷ h.0, h.1));
  each = came.streamed.each;
}
